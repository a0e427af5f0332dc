-- The kind picks its row of the table; one that is none of the rows is past them.
-- a kind that is none of the first is past them
use Rattle.std.specs.Prelude.{None}
use mathlib.Core.Path.{◌≡◌, sym, ◌∙◌}
use Prim.Native.Nat.{ℕ, ◌+◌, ◌≤◌}
use native.Mathlib.Omega.{arith}
use lib.ListN.{get_or-eq_default}
use Rattle.door.specs.Messages.{kinds_given, link_given}
use Rattle.door.proofs.messages.link_given.Goals as goal

past : {k : ℕ} (n : ℕ) → n ≤ k → (k ≡ n → ⊥) → n + 1 ≤ k
past n h g = omega arith

pub returns-in-4 : goal.returns-in-4
unfolding link_given
returns-in-4 c = c.reason_given.ensures ∙ simp c.in-4.is

pub returns-in-14 : goal.returns-in-14
unfolding link_given
returns-in-14 c = c.block_given.ensures ∙ simp c.in-14.is

pub returns-in-0 : goal.returns-in-0
unfolding link_given
returns-in-0 c = simp c.in-0.in-0-own.keys17

pub returns-in-0-2 : goal.returns-in-0-2
unfolding link_given
returns-in-0-2 c = let a = c.args in
    let r = c.in-0.in-0-own.rest in
    sym (get_or-eq_default (kinds_given a.first a.second) None {n = a.kind} (past 16 (past 15 (past 14 (past 13 (past 12 (past 11 (past 10 (past 9 (past 8 (past 7 (past 6 (past 5 (past 4 (past 3 (past 2 (past 1 (past 0 (omega arith) r.1) r.0.0.0.0.0.0.0.0.0.0.0.0.0.0.0.0.1) r.0.0.0.0.0.0.0.0.0.0.0.0.0.0.0.1) r.0.0.0.0.0.0.0.0.0.0.0.0.0.0.1) r.0.0.0.0.0.0.0.0.0.0.0.0.0.1) r.0.0.0.0.0.0.0.0.0.0.0.0.1) r.0.0.0.0.0.0.0.0.0.0.0.1) r.0.0.0.0.0.0.0.0.0.0.1) r.0.0.0.0.0.0.0.0.0.1) r.0.0.0.0.0.0.0.0.1) r.0.0.0.0.0.0.0.1) r.0.0.0.0.0.0.1) r.0.0.0.0.0.1) r.0.0.0.0.1) r.0.0.0.1) r.0.0.1) r.0.1))

pub returns-in-1 : goal.returns-in-1
unfolding link_given
returns-in-1 c = simp c.in-1.is

pub returns-in-2 : goal.returns-in-2
unfolding link_given
returns-in-2 c = simp c.in-2.is

pub returns-in-3 : goal.returns-in-3
unfolding link_given
returns-in-3 c = simp c.in-3.is

pub returns-in-5 : goal.returns-in-5
unfolding link_given
returns-in-5 c = simp c.in-5.is

pub returns-in-6 : goal.returns-in-6
unfolding link_given
returns-in-6 c = simp c.in-6.is

pub returns-in-7 : goal.returns-in-7
unfolding link_given
returns-in-7 c = simp c.in-7.is

pub returns-in-8 : goal.returns-in-8
unfolding link_given
returns-in-8 c = simp c.in-8.is

pub returns-in-9 : goal.returns-in-9
unfolding link_given
returns-in-9 c = simp c.in-9.is

pub returns-in-10 : goal.returns-in-10
unfolding link_given
returns-in-10 c = simp c.in-10.is

pub returns-in-11 : goal.returns-in-11
unfolding link_given
returns-in-11 c = simp c.in-11.is

pub returns-in-12 : goal.returns-in-12
unfolding link_given
returns-in-12 c = simp c.in-12.is

pub returns-in-13 : goal.returns-in-13
unfolding link_given
returns-in-13 c = simp c.in-13.is

pub returns-in-15 : goal.returns-in-15
unfolding link_given
returns-in-15 c = simp c.in-15.is

pub returns-in-16 : goal.returns-in-16
unfolding link_given
returns-in-16 c = simp c.in-16.is
