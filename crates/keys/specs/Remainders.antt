-- Keys by remainder.
--   key_from   the number from s on, among m, that takes x to the remainder t
--   step_by    the running value after a character that counts a, by remainder m; by no modulus 0
--   shifted    what a running value has become once a key has stepped over it, each character times r
--   key_after  the number of the key, among those of a range, that takes a running value to the remainder t
--   number_after  the same; by no modulus, the least number of the range
use Rattle.std.specs.Prelude.{ℕ, ◌+◌, ◌-◌, ◌*◌, ◌%◌, cond, ◌==◌}
use Rattle.keys.specs.declared.range.KeyLength.{KeyLength}
use Rattle.keys.specs.declared.range.KeyLength.TheVariants.{One, Two}
use Rattle.keys.specs.declared.range.KeyRange.{KeyRange}

abbrev pub key_from : ℕ → ℕ → ℕ → ℕ → ℕ
key_from m s x t = s + (t + (m - (x + s) % m)) % m

abbrev pub step_by : ℕ → ℕ → ℕ → ℕ → ℕ
step_by m r v a = cond (m == 0) 0 ((r * v + a) % m)

abbrev pub shifted : KeyLength → ℕ → ℕ → ℕ
shifted One r v = r * v
shifted Two r v = r * (r * v)

abbrev pub key_after : KeyRange → ℕ → ℕ → ℕ → ℕ → ℕ
key_after k m r t v = key_from m k.least (shifted k.length r v) t

abbrev pub number_after : KeyRange → ℕ → ℕ → ℕ → ℕ → ℕ
number_after k m r t v = cond (m == 0) k.least (key_after k m r t v)
