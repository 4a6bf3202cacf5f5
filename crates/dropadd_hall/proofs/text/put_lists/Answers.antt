use Rattle.std.proofs.Common.{◌≡◌, ◌<◌, ◌++◌, ◌∙◌, List, ℕ, arith, sym, subst}
use Rattle.market_units.specs.Name.{name_bytes}
use Rattle.market_certificate.specs.Lines.{joined}
use Rattle.dropadd_desk.specs.HallView.{market_of, state_of}
use Rattle.dropadd_desk.specs.Market.{Market, section_count}
use Rattle.dropadd_hall.specs.Texts.{wait_lines, where_any}
use Rattle.dropadd_hall.proofs.LineJoins.{lines_more, list_none, list_put}
use Rattle.dropadd_hall.proofs.text.put_lists.Goals as goal
use Rattle.market_certificate.proofs.SectionNames.{section_name}

pub sections-preserved-then-is_empty : goal.sections-preserved-then-is_empty
sections-preserved-then-is_empty c =
    let market = market_of c.args.named.now.desk.now in
    let text = c.sections.text.items in
    lines_more (wait_lines market (state_of c.args.named.now.desk.now)) c.sections.section c.args.text.now.items text text c.sections.invariant
    (subst (λ (list : List ℕ). text ≡ text ++ joined (where_any market c.sections.section list)) c.waiting-waiting.ensures.waiting
    (list_none market c.sections.section c.waiting-waiting.result.now text (sym c.is_empty.ensures ∙ c.if-is_empty.true)))

pub sections-preserved : goal.sections-preserved
sections-preserved c =
    let market : Market = record { catalog = c.args.named.now.catalog.now; roll = c.args.named.now.roll.now } in
    let s : ℕ = c.sections.section in
    let waiting = c.waiting-waiting.result.now in
    let text = c.sections.text.items in
    let new = c.put_waiting.new.text.items in
    let low : s < section_count market = omega arith in
    let put =
    list_put market s waiting text new (name_bytes c.name.result) (sym c.is_empty.ensures ∙ c.if-is_empty.false)
    (c.name.ensures ∙ section_name c.args.named.now.catalog.now.sections s low) c.in_ok-put_waiting.ensures in
    let back = subst (λ (m : Market). new ≡ text ++ joined (where_any m s waiting)) (sym c.args.named.now.market) put in
    lines_more (wait_lines (market_of c.args.named.now.desk.now) (state_of c.args.named.now.desk.now)) s c.args.text.now.items text new c.sections.invariant
    (subst (λ (list : List ℕ). new ≡ text ++ joined (where_any (market_of c.args.named.now.desk.now) s list)) c.waiting-waiting.ensures.waiting back)
