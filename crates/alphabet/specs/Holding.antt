-- What a buffer holds.
--   held  the bytes that it holds, at most as many as its size
use Rattle.std.specs.Prelude.{ℕ, List, take}
use Rattle.alphabet.specs.declared.held.Held.{Held}

abbrev pub held : {N : ℕ} → Held N → List ℕ
held h = take h.width h.bytes
