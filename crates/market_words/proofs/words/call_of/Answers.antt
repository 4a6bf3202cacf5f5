use Rattle.std.proofs.Common.{◌≡◌, ◌-◌, arith, drop, length, refl, take}
use Rattle.std.proofs.lemmas.List.{length-drop, length-take-le}
use Rattle.market_words.proofs.WordLists.{sessions_long, words_cut}
use Rattle.market_words.proofs.words.call_of.Goals as goal

pub returns : goal.returns
returns c =
    let long = sessions_long c.args.words.now c.args.before c.requires.sessions in
    let rest : length (drop c.args.before c.args.words.now) ≡ length c.args.words.now - c.args.before = length-drop c.args.before c.args.words.now in
    let front : length (take c.args.before c.args.words.now) ≡ c.args.before = length-take-le c.args.before c.args.words.now (omega (arith, long.0)) in
    let streams : length (take (length c.args.words.now - c.args.before) (drop c.args.before c.args.words.now)) ≡ length c.args.words.now - c.args.before =
    length-take-le (length c.args.words.now - c.args.before) (drop c.args.before c.args.words.now) (omega (arith, rest)) in
    record {
      form_is = refl;
      named = words_cut c.args.words.now c.args.before (omega (arith, long.0));
      front_long = front;
      some = omega (arith, streams, long.0);
    }

pub invariant_of-result : goal.invariant_of-result
invariant_of-result c =
    let long = sessions_long c.args.words.now c.args.before c.requires.sessions in
    let rest : length (drop c.args.before c.args.words.now) ≡ length c.args.words.now - c.args.before = length-drop c.args.before c.args.words.now in
    let front : length (take c.args.before c.args.words.now) ≡ c.args.before = length-take-le c.args.before c.args.words.now (omega (arith, long.0)) in
    let streams : length (take (length c.args.words.now - c.args.before) (drop c.args.before c.args.words.now)) ≡ length c.args.words.now - c.args.before =
    length-take-le (length c.args.words.now - c.args.before) (drop c.args.before c.args.words.now) (omega (arith, rest)) in
    record { short = omega (arith, front, c.requires.before); few = omega (arith, streams, long.1) }
