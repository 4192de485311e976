-- A reading ends in a key in range exactly where its last characters are one: it has one cut with so many behind it.
use Rattle.std.proofs.Common.{◌≡◌, ℕ, ◌-◌, Bool, true, List, length, take, drop, Decides, sym, ap, ◌∙◌, arith, length-append, length-drop, take-append-drop}
use Rattle.std.proofs.lemmas.List.{drop_at}
use Rattle.scheme.specs.Rules.{Rules, key_part, EndsInKey, Keeps}

module _ (e : Rules) (keeps : Keeps e) (r : List ℕ) where
  ends : e.takes (length r) ≡ true → e.in_range (key_part e r) ≡ true → EndsInKey e r
  ends t k =
      let n = length r - e.keys in
      let w = (keeps.wide (length r) t).0 in
      record { front = take n r; key = drop n r; whole = sym (take-append-drop n r); width = t; long = length-drop n r ∙ omega arith; in_range = k }

  its_key : EndsInKey e r → e.in_range (key_part e r) ≡ true
  its_key p =
      let l = ap length p.whole ∙ length-append p.front p.key in
      let at : length p.front ≡ length r - e.keys = omega (arith, l, p.long) in
      ap e.in_range (ap (drop (length r - e.keys)) p.whole ∙ drop_at p.front p.key (length r - e.keys) at) ∙ p.in_range

pub ends_decided : (e : Rules) → Keeps e → (r : List ℕ) (b : Bool) → e.takes (length r) ≡ true → b ≡ e.in_range (key_part e r) → Decides b (EndsInKey e r)
ends_decided e keeps r b t q = (λ h. ends e keeps r t (sym q ∙ h), λ p. q ∙ its_key e keeps r p)
