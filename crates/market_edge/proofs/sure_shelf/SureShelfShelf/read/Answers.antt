use Rattle.std.proofs.Common.{◌≡◌, ◌+◌, ap, arith, refl, sym, ◌∙◌}
use Rattle.std.proofs.lemmas.List.{drop_all}
use Rattle.market_edge.proofs.Files.{text_at_is, moved}
use Rattle.market_edge.specs.MemoryFiles.{text_at}
use Rattle.market_edge.specs.SureFiles.{place_of_begun}
use Rattle.market_edge.proofs.sure_shelf.SureShelfShelf.read.Goals as goal

pub index-requires : goal.index-requires
index-requires c = let here = c.args.self.now.placed c.in-File.place (ap place_of_begun c.in-File.is) in omega (arith, here.0, c.args.self.now.files.ok.0)

pub put_rest-count-requires : goal.put_rest-count-requires
put_rest-count-requires c =
    let here = c.args.self.now.placed c.in-File.place (ap place_of_begun c.in-File.is) in
    rw (c.deref.ensures.value, ← text_at_is c.args.self.now.files.items c.in-File.place.file c.index.result.now here.0 c.index.ensures) here.1

pub invariant_of-self : goal.invariant_of-self
invariant_of-self c =
    let here = c.args.self.now.placed c.in-File.place (ap place_of_begun c.in-File.is) in
    let text : text_at c.args.self.now.files.items c.in-File.place.file ≡ c.deref.result.now =
    text_at_is c.args.self.now.files.items c.in-File.place.file c.index.result.now here.0 c.index.ensures ∙ sym c.deref.ensures.value in
    record {
      placed = λ place is. moved c.args.self.now.files.items c.in-File.place c.put_rest-count.result place here (rw text c.put_rest-count.ensures.within)
          is;
    }

pub returns-clause-reads : goal.returns-clause-reads
returns-clause-reads c =
    let here = c.args.self.now.placed c.in-File.place (ap place_of_begun c.in-File.is) in
    let text : text_at c.args.self.now.files.items c.in-File.place.file ≡ c.deref.result.now =
    text_at_is c.args.self.now.files.items c.in-File.place.file c.index.result.now here.0 c.index.ensures ∙ sym c.deref.ensures.value in
    record {
      holds = refl;
      begun = refl;
      bound = c.put_rest-count.ensures.bound;
      bytes = rw c.in-File.is (rw text c.put_rest-count.ensures.bytes);
      end = λ none room. rw text (drop_all (c.in-File.place.at + c.put_rest-count.result) c.deref.result.now
          (omega (arith, c.put_rest-count.ensures.end none room)));
      ends = λ none. tt;
      goes_on = λ some. tt;
      serves = λ other. rw c.in-File.is refl;
      uncounted = refl;
    }
