use Rattle.std.proofs.Common.{sym, ap, subst, take, ◌∙◌, ◌≡◌, ◌≤◌, length, arith}
use Rattle.market_edge.specs.Words.{HasWord}
use Rattle.market_edge.proofs.Telling.{front_of_room, text_is_had}
use Rattle.market_edge.proofs.given_words.word_of.Goals as goal

pub returns-in-Whole : goal.returns-in-Whole
returns-in-Whole g c =
    let wide : length c.word.new.room ≤ c.rooms.room.len = omega (arith, c.word.auto.room, c.deref_mut.ensures.len) in
    text_is_had (g.W.Words.tells c.args.source.now) c.args.number _ c.text_of.result
    (subst (HasWord (g.W.Words.tells c.args.source.now) c.args.number)
    (front_of_room c.in-Whole.count c.rooms.room.len c.word.new.room _ c.in-Whole.ensures.0 wide ∙ ap (take c.in-Whole.count) (sym c.deref.ensures.value))
    c.in-Whole.ensures.1)
    c.text_of.ensures
