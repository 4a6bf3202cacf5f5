use Rattle.std.proofs.Common.{Bool, ℕ, ◌≡◌, ◌∙◌, arith, true, false}
use Rattle.bundle_rules.proofs.RankedWords.{word_at_start, word_more}
use Rattle.market_menus.proofs.WordBits.{clash_at, clash_at-other_way, clash_said, clash_words, next_word, told_next, told_next_apart, told_none}
use Rattle.market_menus.proofs.clashes.clashes_of.Goals as goal
use Rattle.market_menus.proofs.clashes.clashes_of.Goals.{then-clash, else-clash}

pub loop-place-init : goal.loop-place-init
loop-place-init c = rw c.in_ok-words.ensures.items (told_none (clash_at c.args.places.now.catalog.now.sections c.args.places.now.rated.now))

pub loop-earlier-init : goal.loop-earlier-init
loop-earlier-init c = record {
  words = c.loop-place.invariant;
  own = word_at_start (clash_at c.args.places.now.catalog.now.sections c.args.places.now.rated.now c.loop-place.place);
}

pub loop-earlier-preserved : goal.loop-earlier-preserved
loop-earlier-preserved c =
    let test : ℕ → ℕ → Bool = clash_at c.args.places.now.catalog.now.sections c.args.places.now.rated.now in
    let place : ℕ = c.loop-place.place in
    let earlier : ℕ = c.loop-earlier.earlier in
    let low = c.loop-earlier-test.true in
    let few = c.args.places.now.few in
    let said : test place earlier ≡ c.clash.result = clash_said c.args.places.now.catalog.now.sections c.args.places.now.rated.now place earlier _ _ _ (omega arith) (omega arith) c.clash.ensures.test in
    let other_way : test earlier place ≡ test place earlier = clash_at-other_way c.args.places.now.catalog.now.sections c.args.places.now.rated.now earlier place in
    elim c.if-clash.branch [
      | then-clash w ↦
          let clash : test place earlier ≡ true = said ∙ w.if-clash.true in
          rw (w.words-is, w.word-is, w.with_bit-word.ensures, w.with_bit.ensures) (record {
            words = told_next test c.loop-earlier.words.items w.index.result.now _ place earlier w.index.ensures low (omega arith) (other_way ∙ clash) c.loop-earlier.invariant.words;
            own = word_more (test place) c.loop-earlier.word earlier true (omega arith) c.loop-earlier.invariant.own clash;
          })
      | else-clash w ↦
          let clear : test place earlier ≡ false = said ∙ w.if-clash.false in
          rw (w.words-is, w.word-is) (record {
            words = told_next_apart test c.loop-earlier.words.items place earlier low (omega arith) (other_way ∙ clear) c.loop-earlier.invariant.words;
            own = word_more (test place) c.loop-earlier.word earlier false (omega arith) c.loop-earlier.invariant.own clear;
          })
    ]

pub loop-place-preserved : goal.loop-place-preserved
loop-place-preserved c =
    let few = c.args.places.now.few in
    let end : c.loop-earlier.earlier ≡ c.loop-place.place = omega arith in
    rw c.in_ok-push.ensures.items
    (next_word c.args.places.now.catalog.now.sections c.args.places.now.rated.now c.loop-earlier.words.items c.loop-earlier.word
    c.loop-place.place c.loop-earlier.earlier (omega arith) (omega arith) c.loop-earlier.invariant.words (rw end at c.loop-earlier.invariant.own))

pub returns : goal.returns
returns c =
    clash_words c.args.places.now.catalog.now.sections c.args.places.now.rated.now c.loop-place.words.items c.loop-place.place (omega arith)
    c.loop-place.invariant
