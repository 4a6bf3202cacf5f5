-- A row that is written over.
use Rattle.std.proofs.Common.{◌≡◌, ◌<◌, ◌++◌, ℕ, List, length, take, drop, get_or, replicate, sym, ap, ◌∙◌, Vec, Global}
use Rattle.std.specs.Prelude.{All}
use Rattle.std.specs.Vec.{with_items}
use Rattle.std.proofs.Math.Seq.{take-append_seam}
use Rattle.std.proofs.lemmas.List.{length-replicate}
use Rattle.row_region.specs.Rows.{rewritten}

module _ {T : Type 0} where
  -- a row that is written over by as many cells is these
  pub rewritten_same : (row cells : List T) → length cells ≡ length row → rewritten row cells ≡ cells
  rewritten_same row cells same = ap (λ n. take n (cells ++ drop (length cells) row)) (sym same) ∙ take-append_seam cells (drop (length cells) row)

  -- a row of the region is as wide as the region
  pub wide_at : (rows : List (Vec T Global)) (id width : ℕ) (row : Vec T Global) → All (λ x. length x.items ≡ width) rows → id < length rows
      → row ≡ get_or rows id row → length row.items ≡ width
  wide_at rows id width row wide within is = ap (λ x. length x.items) is ∙ wide id row within

  pub items-with_items : (row : Vec T Global) (cells : List T) → (with_items row cells).items ≡ rewritten row.items cells
  items-with_items row cells = ap (λ n. take n (cells ++ drop (length cells) row.items)) row.ok.0

  pub filled_again : (row : Vec T Global) (fill : T) (width : ℕ) → length row.items ≡ width
      → (with_items row (replicate (length row.items) fill)).items ≡ replicate width fill
  filled_again row fill width wide =
      items-with_items row (replicate (length row.items) fill)
      ∙ rewritten_same row.items (replicate (length row.items) fill) (length-replicate (length row.items) fill)
      ∙ ap (λ n. replicate n fill) wide

  pub length-with_items : (row : Vec T Global) (cells : List T) → length (with_items row cells).items ≡ length row.items
  length-with_items row cells = let v = with_items row cells in sym v.ok.0 ∙ row.ok.0
