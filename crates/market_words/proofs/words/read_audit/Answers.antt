use Rattle.std.proofs.Common.{rules, ◌≡◌, ◌∷◌, ◌∙◌, ◌-◌, ap, arith, drop, length, map, take}
use Rattle.std.specs.Fmt.{decimal}
use Rattle.std.specs.String.{string_bytes}
use Rattle.market_words.proofs.Calls.{audit_call}
use Rattle.market_words.proofs.WordLists.{verb_first}
use Rattle.market_words.proofs.words.read_audit.Goals as goal

pub returns-clause-form : goal.returns-clause-form
returns-clause-form c =
    let more = map string_bytes (take (length c.args.more.now - 1) (drop 1 c.args.more.now)) in
    let count : string_bytes c.workers-item.result ≡ decimal c.in_ok-workers.workers = search rules in
    let first = verb_first c.args.more.now c.workers-item.result (omega arith) c.workers-item.is in
    audit_call more c.call_of.result (map string_bytes c.args.more.now) c.in_ok-workers.workers (first ∙ ap (λ word. word ∷ more) count)
    (c.in_ok-workers.ensures.least, omega (arith, c.in_ok-workers.ensures.most, c.from.ensures)) c.call_of.ensures (search rules)
