-- What a price of a resource and the next one make of open places.
use Rattle.std.specs.Prelude.{ℕ, ◌+◌, ◌<◌, ◌≤◌, ◌≡◌, List, IfSome}
use Rattle.bundle_bounds.specs.declared.prospects.Prospect.{Prospect}
use Rattle.bundle_bounds.specs.declared.prospects.Resource.{Resource}
use Rattle.bundle_bounds.specs.declared.prospects.Resource.TheVariants.{Money, Credits, Count}
use Rattle.bundle_bounds.specs.declared.tangents.Tangent.{Tangent}
use Rattle.bundle_bounds.specs.declared.tangents.Tangents.{Tangents}
use Rattle.bundle_bounds.specs.Bounds.{at_price}

-- the tangent has the bound (`at_price`) of these open places and this rest at its price, and at
-- the price that is greater by 1
pub record IsTangent (rest : ℕ) (resource : Resource) (all : List Prospect)
    (tangent : Tangent) : Type 0 where
  pub low : tangent.price < 20000000
  pub here : tangent.sum ≡ at_price resource rest tangent.price all
  pub after : tangent.next ≡ at_price resource rest (tangent.price + 1) all
  pub small : tangent.sum ≤ 1000000000000000000

-- those of the three resources, as far as there are some
pub record AreTangents (budget credit_rest course_rest : ℕ) (all : List Prospect)
    (tangents : Tangents) : Type 0 where
  pub money_is : IfSome tangents.money (IsTangent budget Money all)
  pub credits_is : IfSome tangents.credits (IsTangent credit_rest Credits all)
  pub courses_is : IfSome tangents.courses (IsTangent course_rest Count all)
