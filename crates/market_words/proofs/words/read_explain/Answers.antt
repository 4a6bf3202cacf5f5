use Rattle.std.proofs.Common.{rules, ◌≡◌, ◌∷◌, get_or, ap, arith, map, take, drop, length, ◌-◌}
use Rattle.std.specs.String.{string_bytes}
use Rattle.std.specs.Prelude.{codes}
use Rattle.std.proofs.lemmas.List.{length-take-le}
use Rattle.market_units.specs.Name.{name_bytes}
use Rattle.market_words.specs.declared.words.Form.TheVariants.{Explain}
use Rattle.market_words.specs.Forms.{AreSessions, HasForm}
use Rattle.market_words.proofs.WordLists.{explain_named, explain_words, sessions_long}
use Rattle.market_words.proofs.words.read_explain.Goals as goal

pub returns-clause-form : goal.returns-clause-form
returns-clause-form c =
    let more = explain_words c.args.more.now c.student-item.result c.section-item.result (omega arith) c.student-item.is c.section-item.is in
    let student : string_bytes c.student-item.result ≡ name_bytes c.in_ok-student.student = search rules in
    let section : string_bytes c.section-item.result ≡ name_bytes c.in_ok-section.section = search rules in
    let sessions : AreSessions (map string_bytes (take (length c.args.more.now - 6) (drop 6 c.args.more.now))) = search rules in
    let has : HasForm (codes "explain" ∷ map string_bytes c.args.more.now) (Explain c.in_ok-student.student c.in_ok-section.section) = (
      string_bytes (get_or c.args.more.now 0 c.student-item.result),
      string_bytes (get_or c.args.more.now 1 c.student-item.result),
      string_bytes (get_or c.args.more.now 2 c.student-item.result),
      string_bytes (get_or c.args.more.now 3 c.student-item.result),
      map string_bytes (take (length c.args.more.now - 6) (drop 6 c.args.more.now)),
      rw (← student, ← section) (ap (λ ws. codes "explain" ∷ ws) more),
      sessions,
    ) in
    let some = sessions_long (take (length c.args.more.now - 6) (drop 6 c.args.more.now)) 0 sessions in
    record {
      has = has;
      named = explain_named c.args.more.now (omega arith);
      front_long = length-take-le 4 c.args.more.now (omega arith);
      some = λ _. some.0;
    }
