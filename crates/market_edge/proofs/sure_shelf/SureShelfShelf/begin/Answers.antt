use Rattle.std.proofs.Common.{◌≡◌, None, Some, refl, rules, sym}
use Rattle.market_edge.proofs.Files.{sure_text_of_none, sure_text_of_place}
use Rattle.market_edge.specs.MemoryFiles.{place_of}
use Rattle.market_edge.proofs.sure_shelf.SureShelfShelf.begin.Goals as goal

pub returns-in_default-clause-begins : goal.returns-in_default-clause-begins
returns-in_default-clause-begins c =
    let none : place_of c.args.self.now.files.items c.args.name.now ≡ None = cc (c.find.ensures, c.in_default.is, c.deref.ensures.value) in
    record {
      holds = refl;
      begun = refl;
      text = (refl, sym (sure_text_of_none c.args.self.now.files.items c.args.name.now none));
      serves = rw none refl;
      opens = tt;
      uncounted = refl;
    }

pub returns-clause-begins : goal.returns-clause-begins
returns-clause-begins c =
    let found : place_of c.args.self.now.files.items c.args.name.now ≡ Some c.in-Some.file = cc (c.in-Some.ensures, c.deref.ensures.value) in
    record {
      holds = refl;
      begun = refl;
      text = (refl, sym (sure_text_of_place c.args.self.now.files.items c.args.name.now c.in-Some.file found));
      serves = search rules;
      opens = tt;
      uncounted = refl;
    }
