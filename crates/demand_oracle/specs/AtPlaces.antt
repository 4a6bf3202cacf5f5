-- What stands at each place of an offer's menu.
use Rattle.std.specs.Prelude.{ℕ, ◌<◌, ◌≤◌, ◌≡◌, length, slice_index}
use Rattle.std.specs.Int.{bit_at}
use Rattle.bundle_rules.specs.Menus.{credits_at}
use Rattle.bundle_bounds.specs.Offers.{OfferData, price_at}
use Rattle.demand_oracle.specs.declared.goods.Goods.{Goods}
use Rattle.demand_oracle.specs.OpenWords.{IsWordOf, Clashes, IsAlone}
use Rattle.demand_oracle.specs.PriceColumns.{column_of}

-- the price and the credits of each place, the places that may be taken alone, and the clashes of
-- each of these; and for each column of tokens the places whose prices are in one no higher
pub record IsGoods (offer : OfferData) (goods : Goods) : Type 0 where
  pub prices : (p : ℕ) → p < length offer.menu.places
      → slice_index goods.prices p ≡ price_at offer p
  pub credits : (p : ℕ) → p < length offer.menu.places
      → slice_index goods.credits p ≡ credits_at offer.menu.places p
  pub clashes : (p : ℕ) → p < length offer.menu.places → bit_at goods.alone p ≡ 1
      → IsWordOf (Clashes offer.menu p) (length offer.menu.places) (slice_index goods.clashes p)
  pub alone : IsWordOf (IsAlone offer) (length offer.menu.places) goods.alone
  pub within : (p units : ℕ) → p < length offer.menu.places → units < 64
      → column_of goods.unit.shift (price_at offer p) ≤ units
      → bit_at (slice_index goods.within units) p ≡ 1
