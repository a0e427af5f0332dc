mod Matching
