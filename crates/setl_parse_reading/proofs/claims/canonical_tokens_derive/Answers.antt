use Rattle.setl_parse_reading.proofs.CanonicalPrograms.{canonical_derives}
use Rattle.setl_parse_reading.proofs.claims.canonical_tokens_derive.Goals as goal

pub returns : goal.returns
returns c = canonical_derives
