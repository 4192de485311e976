-- Each way through a turn, and each exit, by the lemma of its arm.
use Rattle.std.proofs.Common.{◌≡◌, ◌<◌, true, false, not, length, length-take, get_or, take, refl, ap, ◌∙◌, arith, rules}
use Rattle.std.proofs.lemmas.List.{take_all}
use Rattle.std.proofs.lemmas.List.Filters.{length-filter_both}
use Rattle.alphabet.specs.Holding.{held}
use Rattle.alphabet.specs.Characters.{is_character}
use Rattle.paper.specs.Paper.{is_gap, stripped}
use Rattle.paper.specs.declared.forms.State.TheVariants.{InGroup, AfterGap}
use Rattle.paper.proofs.Machine.{Stands, Reading, lost_gap, stray, finished, written, passed}
use Rattle.paper.proofs.forms.gather.Goals.{in_default-Character, in-InGroup-Gap}
use Rattle.paper.proofs.forms.gather.Goals as goal

pub returns-in_default : goal.returns-in_default
returns-in_default c =
    let form = c.args.form.now in
    let i = c.loop-i.i in
    let e : is_character (get_or form i 0) ≡ false = grind arith in
    let n : c.loop-i.state ≡ AfterGap → ⊥ = grind arith in
    let g : c.loop-i.state ≡ InGroup → is_gap (get_or form i 0) ≡ false = grind arith in
    let w = stray c.loop-i.state form i (omega arith) e n g c.loop-i.invariant.stands in
    search rules

pub returns-in-AfterGap-default : goal.returns-in-AfterGap-default
returns-in-AfterGap-default c =
    let form = c.args.form.now in
    let i = c.loop-i.i in
    let e : is_character (get_or form i 0) ≡ false = grind arith in
    let s : c.loop-i.state ≡ AfterGap = search rules in
    let v : Stands AfterGap form i = rw s at c.loop-i.invariant.stands in
    let w = lost_gap form i (omega arith) e v in
    search rules

pub loop-i-preserved : goal.loop-i-preserved
loop-i-preserved c =
    let form = c.args.form.now in
    let i = c.loop-i.i in
    let l : i < length form = omega arith in
    let v = c.loop-i.invariant in
    elim c.match-from.branch [
      | in_default-Character w ↦
          let e : is_character (get_or form i 0) ≡ true = grind arith in
          rw (w.state-is, w.text-is) (written _ form i _ _ v l e (search rules))
      | in-InGroup-Gap w ↦
          let e : is_character (get_or form i 0) ≡ false = grind arith in
          let g : is_gap (get_or form i 0) ≡ true = grind arith in
          let u : Reading InGroup form i (held c.loop-i.text) = rw w.in-InGroup-Gap.is-0 at v in
          rw (w.state-is, w.text-is) (passed form i _ u l e g)
    ]

-- past the end `get_or` gives 0, which is no character
pub returns-in-Start : goal.returns-in-Start
returns-in-Start c =
    let form = c.args.form.now in
    let i = c.loop-i.i in
    let v = c.loop-i.invariant in
    let t = take_all i form (omega arith) in
    let n : c.loop-i.state ≡ AfterGap → ⊥ = grind arith in
    let h : held c.loop-i.text ≡ take 35 (stripped form) = v.held ∙ ap (λ xs. take 35 (stripped xs)) t in
    record {
      wrong = finished c.loop-i.state form i (omega arith) n v.stands;
      counted = ap length h ∙ length-take 35 (stripped form);
      whole = λ n. h ∙ take_all 35 (stripped form) (omega (arith, ap length h, length-take 35 (stripped form)));
      short = omega (arith, ap length h, length-take 35 (stripped form), length-filter_both is_character (λ b. not (is_character b)) (λ b. refl) form);
    }
