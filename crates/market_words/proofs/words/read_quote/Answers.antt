use Rattle.std.proofs.Common.{rules, ◌≡◌, ◌-◌, ◌∷◌, get_or, arith, ap, drop, length, map, take}
use Rattle.std.specs.String.{string_bytes}
use Rattle.std.specs.Prelude.{codes}
use Rattle.std.specs.Fmt.{decimal}
use Rattle.std.proofs.lemmas.List.{length-drop, length-take-le}
use Rattle.market_units.specs.Name.{name_bytes}
use Rattle.market_words.specs.declared.words.Form.TheVariants.{Quote}
use Rattle.market_words.specs.Forms.{HasForm}
use Rattle.market_words.proofs.WordLists.{quote_named, quote_words}
use Rattle.market_words.proofs.words.read_quote.Goals as goal

pub returns-clause-form : goal.returns-clause-form
returns-clause-form c =
    let five =
    quote_words c.args.more.now c.name-item.result c.credits-item.result c.courses-item.result (omega arith) c.name-item.is c.credits-item.is
    c.courses-item.is in
    let name : string_bytes c.name-item.result ≡ name_bytes c.in_ok-name.name = search rules in
    let credits : string_bytes c.credits-item.result ≡ decimal c.in_ok-credits.credits = search rules in
    let courses : string_bytes c.courses-item.result ≡ decimal c.in_ok-courses.courses = search rules in
    let behind : length (drop 1 c.args.more.now) ≡ length c.args.more.now - 1 = length-drop 1 c.args.more.now in
    let one : length (take 1 (drop 1 c.args.more.now)) ≡ 1 = length-take-le 1 (drop 1 c.args.more.now) (omega (arith, behind)) in
    let has : HasForm (codes "quote" ∷ map string_bytes c.args.more.now) (Quote c.in_ok-name.name c.in_ok-credits.credits c.in_ok-courses.courses) = (
      string_bytes (get_or c.args.more.now 0 c.name-item.result),
      string_bytes (get_or c.args.more.now 1 c.name-item.result),
      rw (← name, ← credits, ← courses) (ap (λ ws. codes "quote" ∷ ws) five),
      omega (arith, c.in_ok-credits.ensures.within, c.from.ensures),
      omega (arith, c.in_ok-courses.ensures.within, c.from-2.ensures),
    ) in
    record {
      has = has;
      named = quote_named c.args.more.now (omega arith);
      front_long = length-take-le 1 c.args.more.now (omega arith);
      some = λ _. omega (arith, one);
    }
