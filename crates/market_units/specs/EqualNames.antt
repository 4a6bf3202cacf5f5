-- Names of equal bytes.
use Rattle.std.proofs.Common.{◌≡◌, ◌-◌, ◌++◌, ◌∙◌, length, ap, sym}
use Rattle.std.specs.Prelude.{replicate}
use Rattle.std.proofs.Props.{props}
use mathlib.Core.HLevel.{is_prop→PathP}
use Rattle.market_units.specs.declared.limits.TheConstants.{MAX_NAME}
use Rattle.market_units.specs.declared.names.Name.{Name}
use Rattle.market_units.specs.Names.{HoldsName}
use Rattle.market_units.specs.Name.{name_bytes}

-- two names of equal bytes are equal
pub same_name : (a b : Name) → name_bytes a ≡ name_bytes b → a ≡ b
same_name a b e =
    let lens : a.len ≡ b.len = sym a.holds.whole ∙ ap length e ∙ b.holds.whole in
    let rooms : a.room ≡ b.room =
    a.holds.zeros
    ∙ ap (λ front. front ++ replicate (MAX_NAME - a.len) 0) e
    ∙ ap (λ len. name_bytes b ++ replicate (MAX_NAME - len) 0) lens
    ∙ sym b.holds.zeros in
    λ i. record {
      room = rooms i;
      len = lens i;
      holds =
          is_prop→PathP (λ j. HoldsName (rooms j) (lens j)) (λ j. Prim.hlevel props) a.holds b.holds
          i;
    }
