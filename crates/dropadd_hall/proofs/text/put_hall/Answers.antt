use Rattle.std.proofs.Common.{◌≡◌, ◌++◌, ◌∙◌, List, ap, sym, subst, map}
use Rattle.std.specs.List.{flat_map, range_with_len}
use Rattle.market_certificate.specs.Lines.{joined}
use Rattle.dropadd_desk.specs.HallView.{market_of, state_of}
use Rattle.dropadd_desk.specs.Lines.{HallStep}
use Rattle.dropadd_desk.specs.Market.{Market, section_count, student_count}
use Rattle.dropadd_hall.specs.Texts.{entry_line, hall_text, held_line, seats_line, wait_lines}
use Rattle.dropadd_hall.proofs.LineJoins.{whole}
use Rattle.dropadd_hall.proofs.text.put_hall.Goals as goal

pub returns : goal.returns
returns c =
    let market = market_of c.args.hall.now.desk in
    let state = state_of c.args.hall.now.desk in
    let journal = c.args.hall.now.journal in
    let begun = c.new-text.result.items in
    let entries = c.in_ok-put_entries.ensures
    ∙ ap (λ (m : Market). begun ++ joined (map (entry_line m) c.steps.result.now)) (sym c.requires.market)
    ∙ ap (λ (steps : List HallStep). begun ++ joined (map (entry_line market) steps)) c.steps.ensures in
    let written =
    whole (map (entry_line market) journal) (map (held_line market state) (range_with_len 0 (student_count market)))
    (flat_map (wait_lines market state) (range_with_len 0 (section_count market))) (map (seats_line market state) (range_with_len 0 (section_count market)))
    begun c.put_entries.new.text.items c.put_bundles.new.text.items c.put_lists.new.text.items c.put_all_seats.new.text.items
    c.new-text.ensures.items entries c.in_ok-put_bundles.ensures c.in_ok-put_lists.ensures c.in_ok-put_all_seats.ensures in
    subst (λ (m : Market). c.put_all_seats.new.text.items ≡ hall_text m journal state) c.requires.market written
