use Rattle.std.proofs.Common.{ℕ, length, map, ap, sym, ◌∙◌}
use Rattle.bundle_rules.specs.Ahead.{is_ahead}
use Rattle.bundle_rules.specs.Menus.{place_in}
use Rattle.bundle_rules.specs.Bundles.{sections_of}
use Rattle.bundle_rules.proofs.Bundled.{sections_of-IsBundle}
use Rattle.bundle_rules.proofs.Feasibility.{place_of_rated}
use Rattle.bundle_rules.proofs.PlacesFirst.{ahead_by_places}
use Rattle.bundle_rules.proofs.preferences.comes_first.Goals as goal

pub returns : goal.returns
returns c =
    let menu = c.args.menu.now in
    let a = sections_of c.args.a.now in
    let b = sections_of c.args.b.now in
    let first = c.as_slice.ensures.value ∙ c.of-first.ensures in
    let second = c.as_slice-2.ensures.value ∙ c.of-second.ensures in
    let count : ℕ = length menu.places in
    let same = c.is_ahead.ensures
    ∙ ap (λ n. is_ahead n c.as_slice.result.now c.as_slice-2.result.now) c.len.ensures.value
    ∙ ap (λ ps. is_ahead count ps c.as_slice-2.result.now) first
    ∙ ap (is_ahead count (map (place_in menu.places) a)) second in
    let tells =
    ahead_by_places menu.places c.len.ensures.menu.places.ascending a b (sections_of-IsBundle c.args.a.now).ascending
    (sections_of-IsBundle c.args.b.now).ascending (place_of_rated menu a c.requires.first) (place_of_rated menu b c.requires.second) in
    ((λ is. tells.0 (sym same ∙ is)), (λ d. same ∙ tells.1 d))
