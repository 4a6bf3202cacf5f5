use Rattle.std.proofs.Common.{subst, sym}
use Rattle.market_certificate.specs.Publications.{ProvedTurn}
use Rattle.market_certificate.specs.Views.{turn_of as published_of}
use Rattle.published_market.specs.Making.{HasForm}
use Rattle.published_market.proofs.Rooming.{turn_shown}
use Rattle.published_market.proofs.turns.ChosenBestBundles.show.Goals as goal

pub returns : goal.returns
returns c =
    let form : HasForm (published_of c.of_turn.result).bundle (published_of c.of_turn.result).tree =
    subst (λ (turn : ProvedTurn). HasForm turn.bundle turn.tree) (sym c.of_turn.ensures.turn) c.requires.form in
    record {
      published =
          turn_shown c.args.self.now c.args.place c.index-turns-place.result c.args.proved (published_of c.of_turn.result) c.requires.place
          c.index-turns-place.is c.requires.proved c.requires.bundle c.of_turn.ensures.turn;
      form = record { form = form; pass = c.of_turn.ensures.pass };
    }
