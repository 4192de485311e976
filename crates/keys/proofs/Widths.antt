-- Widths from one more than the key to 34, and the places of the key in them.
use Rattle.std.proofs.Common.{◌≡◌, ℕ, ◌+◌, ◌<◌, ◌≤◌, true, arith}
use Rattle.std.proofs.lemmas.Bool.Decides.{nat_tests}
use Rattle.keys.specs.KeyRanges.{keys_of, takes_any, in_key}
use Rattle.keys.specs.declared.range.KeyRange.{KeyRange}

pub takes_wide : (r : KeyRange) (w : ℕ) → takes_any r w ≡ true → (keys_of r.length < w) × (w ≤ 34)
takes_wide r w t = (grind (arith, nat_tests), grind (arith, nat_tests))

pub in_key_lem : (r : KeyRange) (w k : ℕ) → takes_any r w ≡ true → w < k + keys_of r.length → k ≤ w → in_key r w k ≡ true
in_key_lem r w k t lo hi = let z = (takes_wide r w t).0 in grind (arith, nat_tests)
