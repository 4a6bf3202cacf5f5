use Rattle.std.proofs.Common.{◌≡◌, refl, rules}
use Rattle.tabu_search.proofs.Windows.{window_begins}
use Rattle.tabu_search.proofs.Walks.{walk_begins}
use Rattle.tabu_search.proofs.walking.Walk.begin.Goals as goal

pub returns-clause-walk : goal.returns-clause-walk
returns-clause-walk c = λ crowd seats start high.
    let counts : c.in_ok-to_vec.field-0.items ≡ c.args.current.counts.items = search rules in
    let best : c.in_ok-to_vec-2.field-0.items ≡ c.args.current.prices.items = search rules in
    let window =
    window_begins c.in_ok-window.window c.push_back.new.self c.in_ok-to_vec.field-0 c.args.current.counts.items c.args.settings.now.tabu
    c.in_ok-window.ensures c.push_back.ensures.items counts in
    walk_begins crowd seats c.args.settings.now _ start.seated.known start.seated.each start.is start.zero best refl refl refl refl window.0 window.1 high
