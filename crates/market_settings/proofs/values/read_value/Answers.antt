use Rattle.std.proofs.Common.{rules, refl, inl, inr}
use Rattle.std.specs.Str.{is_utf8}
use Rattle.std.proofs.lemmas.Bool.{cases_Bool}
use Rattle.std.proofs.lemmas.Str.{is_utf8-from_IsUtf8, IsUtf8-from_is_utf8}
use Rattle.serde_json.specs.Errors.{IsMemory}
use Rattle.market_settings.proofs.values.read_value.Goals as goal

pub returns-in-Ok-clause-value : goal.returns-in-Ok-clause-value
returns-in-Ok-clause-value c = let h = c.in-Ok.ensures.ok in rw (is_utf8-from_IsUtf8 c.args.bytes.now h.0) h.1

pub returns-else-is_memory-clause-only : goal.returns-else-is_memory-clause-only
returns-else-is_memory-clause-only c _ =
    let not_memory : ¬ (IsMemory c.in-Err.error) = search rules in (
      refl,
      elim (cases_Bool (is_utf8 c.args.bytes.now)) [
        | inl text ↦ rw text (c.in-Err.ensures.err not_memory (IsUtf8-from_is_utf8 c.args.bytes.now text))
        | inr other ↦ rw other refl
      ],
    )
