use Rattle.std.proofs.Common.{string_bytes}
use Rattle.setl_top_words.proofs.Refused.{tells_refusal}
use Rattle.setl_top_words.proofs.told.fault_text.Goals as goal

pub returns-in-Err : goal.returns-in-Err
returns-in-Err c =
    tells_refusal string_bytes _ _ c.in-Err.error c.text_of.result c.in_ok-commands.ensures c.in-Err.ensures.kinds c.text_of.ensures.some c.text_of.ensures.refused
