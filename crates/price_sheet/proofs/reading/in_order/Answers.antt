use Rattle.std.proofs.Common.{rules, arith, ◌≡◌, ◌≤◌, ◌∙◌, ◌++◌, ◌∷◌, [], ℕ, List, ap, map, sym, take}
use Rattle.std.proofs.lemmas.List.{map-append}
use Rattle.std.proofs.lemmas.List.Elements.{All-push}
use Rattle.market_units.specs.declared.units.Tokens.{Tokens}
use Rattle.course_catalog.specs.Sections.{section_at, section_names}
use Rattle.price_sheet.specs.Sheets.{price_in}
use Rattle.price_sheet.proofs.PriceFacts.{prices-more}
use Rattle.price_sheet.proofs.reading.in_order.Goals as goal

pub loop-section-preserved : goal.loop-section-preserved
loop-section-preserved c =
    let pushed : c.push.new.self.items ≡ c.loop-section.prices.items ++ c.price_of.result ∷ [] = search rules in
    let price : c.price_of.result.0 ≡ price_in c.args.sheet.now.read.now.rows.items (section_at c.args.catalog.now.sections c.loop-section.section).name =
    c.price_of.ensures.price ∙ ap (price_in c.args.sheet.now.read.now.rows.items) c.name.ensures in
    record {
      prices =
          ap (map (λ price. price.0)) pushed
          ∙ map-append (λ (price : Tokens). price.0) c.loop-section.prices.items (c.price_of.result ∷ [])
          ∙ ap (λ (front : List ℕ). front ++ c.price_of.result.0 ∷ []) c.loop-section.invariant.prices
          ∙ ap (λ (p : ℕ). map (price_in c.args.sheet.now.read.now.rows.items) (take c.loop-section.section (section_names c.args.catalog.now.sections)) ++
          p ∷ []) price
          ∙ sym (prices-more c.args.sheet.now.read.now.rows.items c.args.catalog.now.sections c.loop-section.section _
          (omega (arith, c.len-section-end.ensures.count)));
      range =
          rw pushed
          (All-push (λ (price : Tokens). price.0 ≤ 1000001) c.loop-section.prices.items c.price_of.result c.loop-section.invariant.range
          c.price_of.ensures.range);
    }
