use Rattle.std.proofs.Common.{refl, subst}
use Rattle.proof_tree.specs.declared.signs.Sign.TheVariants.{Pruned}
use Rattle.proof_tree.specs.Texts.{IsShort}
use Rattle.proof_tree.proofs.symbols.spell_leaf.Goals as goal

pub numbered-requires : goal.numbered-requires
numbered-requires c = (subst (λ l. IsShort (Pruned l)) c.in-Budget.is c.requires) c.in-Budget.place refl

pub numbered-requires-in-Credits : goal.numbered-requires-in-Credits
numbered-requires-in-Credits c = (subst (λ l. IsShort (Pruned l)) c.in-Credits.is c.requires) c.in-Credits.place refl

pub numbered-requires-in-Number : goal.numbered-requires-in-Number
numbered-requires-in-Number c = (subst (λ l. IsShort (Pruned l)) c.in-Number.is c.requires) c.in-Number.place refl
