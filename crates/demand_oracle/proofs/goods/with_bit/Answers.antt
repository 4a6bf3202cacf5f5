use Rattle.std.proofs.Common.{◌<◌, ◌≤◌, length, arith, sym, ◌∙◌, inl, inr, w64}
use Rattle.std.proofs.lemmas.Bool.{cases_eq}
use Rattle.std.proofs.lemmas.Nat.Bits.{bit_at_set_same, bit_at_set_other}
use Rattle.demand_oracle.proofs.goods.with_bit.Goals as goal

pub returns-then-is_set : goal.returns-then-is_set
returns-then-is_set c p =
    let few : length c.args.spot.now.offer.now.menu.now.places ≤ 60 = c.len.ensures.menu.places.few in
    let low : c.args.spot.now.place < 64 = omega (arith, c.args.spot.now.on_menu) in (
      λ set. elim (cases_eq p c.args.spot.now.place) [
        | inl same ↦ inr (same, c.if-is_set.true)
        | inr other ↦ inl (sym (bit_at_set_other w64 c.args.word c.args.spot.now.place low p other) ∙ set)
      ],
      λ is. elim (cases_eq p c.args.spot.now.place) [
        | inl same ↦ rw same (bit_at_set_same w64 c.args.word c.args.spot.now.place low)
        | inr other ↦ elim is [
          | inl before ↦ bit_at_set_other w64 c.args.word c.args.spot.now.place low p other ∙ before
          | inr here ↦ absurd (other here.0)
        ]
      ],
    )
