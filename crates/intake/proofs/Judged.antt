-- Lines: where they are cut, and that a line is good exactly where its verdict is.
use Rattle.std.proofs.Common.{◌≡◌, ◌==◌, ℕ, ◌+◌, ◌≤◌, Bool, true, false, cond, eqb, ltb, position, option_map, find, List, [], ◌∷◌, ◌++◌, length, take, drop, Some, None, Ok, Err, Option, Result, sym, refl, ap, ◌∙◌, subst, arith, MatchResult}
use Rattle.std.specs.List.{position_from}
use Rattle.std.proofs.lemmas.Iterator.Adapters.{position_from-zero}
use Rattle.std.proofs.lemmas.List.{append_assoc, drop_at, length_push, take_at}
use Rattle.std.specs.Str.{bytes_eq}
use Rattle.std.proofs.lemmas.Slice.Eq.{bytes_eq-Decides}
use Rattle.std.proofs.lemmas.Bool.Decides.{nat_tests}
use Rattle.alphabet.specs.Faults.{of_no_layer, answer}
use Rattle.alphabet.specs.declared.fault.Refusal.TheVariants.{Width}
use Rattle.alphabet.specs.declared.fault.Fault.{Fault}
use Rattle.pure.specs.declared.systems.Pure.TheVariants.{Mod11R2, Mod37R2, Mod97R10, Mod661R26, Mod1271R36}
use Rattle.formats.specs.Formats.{word_of, every, format_of, format_verdict, FormatValid}
use Rattle.formats.specs.declared.format.Format.{Format}
use Rattle.formats.specs.declared.format.Format.TheVariants.{System}
use Rattle.paper.specs.Paper.{wrong_at, stripped, stripping, afterwards}
use Rattle.intake.specs.Lines.{cut_after, by_form, by_format, by_word, line_verdict, GoodLine}

-- a line is cut at the first space, as the library finds it: what is read of the line, and what is left
cut_from : (l word rest : List ℕ) (k : ℕ) → l ≡ word ++ rest → k ≡ length word →
    cut_after word rest ≡ option_map (λ i. (take i l, drop (i + 1) l)) (position_from (λ b. b == 32) k rest)
cut_from l word [] k e n = refl
cut_from l word (b ∷ bs) k e n =
    let split : l ≡ (word ++ b ∷ []) ++ bs = e ∙ sym (append_assoc word (b ∷ []) bs) in
    let more : k + 1 ≡ length (word ++ b ∷ []) = omega (arith, length_push word b) in
    let front : take k l ≡ word = ap (take k) e ∙ take_at word (b ∷ bs) k (sym n) in
    let behind : drop (k + 1) l ≡ bs = ap (drop (k + 1)) split ∙ drop_at (word ++ b ∷ []) bs (k + 1) (sym more) in
    let later = cut_from l (word ++ b ∷ []) bs (k + 1) split more in
    grind (arith, nat_tests)

pub cut_position : (l : List ℕ) → cut_after [] l ≡ option_map (λ i. (take i l, drop (i + 1) l)) (position (λ b. b == 32) l)
cut_position l = cut_from l [] l 0 refl refl ∙ ap (option_map (λ i. (take i l, drop (i + 1) l))) (sym (position_from-zero (λ b. b == 32) l))

-- a word of a format has no space in it
cut_word : (f : Format) (form : List ℕ) → cut_after [] (word_of f ++ (32 ∷ form)) ≡ Some (word_of f, form)
cut_word (System Mod11R2) form = refl
cut_word (System Mod37R2) form = refl
cut_word (System Mod97R10) form = refl
cut_word (System Mod661R26) form = refl
cut_word (System Mod1271R36) form = refl

-- and names that format
word_format : (f : Format) → format_of (word_of f) ≡ Some f
word_format (System Mod11R2) = refl
word_format (System Mod37R2) = refl
word_format (System Mod97R10) = refl
word_format (System Mod661R26) = refl
word_format (System Mod1271R36) = refl

-- a word that names a format is the format's
found : {X : Type 0} (p : X → Bool) (xs : List X) (x : X) → find p xs ≡ Some x → p x ≡ true
found p [] x e = grind arith
found p (y ∷ ys) x e = let rest = found p ys x in grind (arith, nat_tests)

named_word : (word : List ℕ) (f : Format) → format_of word ≡ Some f → word_of f ≡ word
named_word word f e = sym ((bytes_eq-Decides word (word_of f)).0 (found (λ g. bytes_eq word (word_of g)) every f e))

-- what a good line is cut into
good_cut : (l : List ℕ) (g : GoodLine l) → cut_after [] l ≡ Some (word_of g.format, g.form)
good_cut l g = ap (cut_after []) g.parts ∙ cut_word g.format g.form

-- a line is what it is cut into, with the space between
cut_at : (acc : List ℕ) (b : ℕ) (bs word form : List ℕ) → (cut_after (acc ++ b ∷ []) bs ≡ Some (word, form) → (acc ++ b ∷ []) ++ bs ≡ word ++ (32 ∷ form)) →
    (t : Bool) → eqb b 32 ≡ t → cond t (Some (acc, bs)) (cut_after (acc ++ b ∷ []) bs) ≡ Some (word, form) → acc ++ b ∷ bs ≡ word ++ (32 ∷ form)
cut_at acc b bs word form h true e q =
    let space : b ≡ 32 = grind (arith, nat_tests) in
    let w : acc ≡ word = grind arith in
    let f : bs ≡ form = grind arith in
    cc
cut_at acc b bs word form h false e q = sym (append_assoc acc (b ∷ []) bs) ∙ h q

cut_parts : (acc l word form : List ℕ) → cut_after acc l ≡ Some (word, form) → acc ++ l ≡ word ++ (32 ∷ form)
cut_parts acc [] word form q = absurd (let z : ◌≡◌ {A = ℕ} 0 1 = cc in let n : ⊥ = omega arith in n)
cut_parts acc (b ∷ bs) word form q = cut_at acc b bs word form (cut_parts (acc ++ b ∷ []) bs word form) (eqb b 32) refl q

-- what strip says where it answers a width
strip_ok : (form : List ℕ) (w : ℕ) → Ok w ≡ answer (length (stripped form)) (stripping form 34) → (stripping form 34 ≡ None) × (w ≡ length (stripped form))
strip_ok form w e = (grind arith, grind arith)

none_wrong : (form : List ℕ) → stripping form 34 ≡ None → wrong_at form ≡ None
none_wrong form e = grind (arith, nat_tests)

-- a line that is cut, named and stripped is judged by the check of its characters
module _ (l word form : List ℕ) (f : Format) (w : ℕ) (buffer zeros t : List ℕ) (r : Result (Unit {0}) Fault)
    (short : length l ≤ 128) (cut : cut_after [] l ≡ Some (word, form)) (named : format_of word ≡ Some f)
    (width : Ok w ≡ answer (length (stripped form)) (stripping form 34)) (held : buffer ≡ afterwards (stripping form 34) form zeros) (part : t ≡ take w buffer)
    (checked : r ≡ format_verdict f t) (exact : MatchResult r (λ _. FormatValid f t) (λ _. FormatValid f t → ⊥)) where
  clean : stripping form 34 ≡ None
  clean = (strip_ok form w width).0

  text : t ≡ stripped form
  text =
      let b : buffer ≡ stripped form ++ drop (length (stripped form)) zeros = held ∙ ap (λ (o : Option Fault). afterwards o form zeros) clean in
      part ∙ ap (take w) b ∙ take_at (stripped form) (drop (length (stripped form)) zeros) w (sym (strip_ok form w width).1)

  line_is : line_verdict l ≡ format_verdict f (stripped form)
  line_is =
      let n : ltb 128 (length l) ≡ false = grind (arith, nat_tests) in
      ap (λ (b : Bool). cond b (Err (of_no_layer Width)) (by_word (cut_after [] l))) n
      ∙ ap by_word cut ∙ ap (λ (o : Option Format). by_format o form) named ∙ ap (λ (o : Option Fault). by_form o f form) clean

  pub judged : r ≡ line_verdict l
  judged = checked ∙ ap (format_verdict f) text ∙ sym line_is

  good : FormatValid f t → GoodLine l
  good v =
      let V : List ℕ → Type 0 = λ xs. FormatValid f xs in
      record {
        format = f;
        form = form;
        short = short;
        parts = cut_parts [] l word form cut ∙ ap (λ (xs : List ℕ). xs ++ (32 ∷ form)) (sym (named_word word f named));
        right = none_wrong form clean;
        valid = subst V text v;
      }

  -- a good line can be cut and named in one way only
  only : GoodLine l → FormatValid f t
  only g =
      let c = sym cut ∙ good_cut l g in
      let w-same : word ≡ word_of g.format = grind arith in
      let f-same : form ≡ g.form = grind arith in
      let n : Some f ≡ Some g.format = sym named ∙ ap format_of w-same ∙ word_format g.format in
      let same : g.format ≡ f = grind arith in
      let V : Format → Type 0 = λ x. FormatValid x (stripped g.form) in
      let W : List ℕ → Type 0 = λ xs. FormatValid f xs in
      subst W (sym (text ∙ ap stripped f-same)) (subst V same g.valid)

  exactly_by : (x : Result (Unit {0}) Fault) → MatchResult x (λ _. FormatValid f t) (λ _. FormatValid f t → ⊥) → MatchResult x (λ _. GoodLine l) (λ _. GoodLine l → ⊥)
  exactly_by (Ok y) v = good v
  exactly_by (Err y) n = λ g. n (only g)

  pub exactly : MatchResult r (λ _. GoodLine l) (λ _. GoodLine l → ⊥)
  exactly = exactly_by r exact
