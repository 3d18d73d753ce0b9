-- The claims on programs.
use Rattle.std.proofs.Common.{◌+◌, [], refl, sym, ap, subst, ◌∙◌, arith}
use Rattle.std.proofs.lemmas.List.{append-nil}
use Rattle.setl_tree.specs.Tokens.{Tokens}
use Rattle.setl_tree.specs.Programs as grammar
use Rattle.setl_tree.specs.Programs.{Derives}
use Rattle.setl_parse_reading.specs.Claims.{ReadingIsSound, ReadingIsComplete, NestingsMayBeMore, TreeIsUnique}
use Rattle.setl_parse_reading.specs.code.ReadPrograms as reading
use Rattle.setl_parse_reading.proofs.Laws.{ok_parts}
use Rattle.setl_parse_reading.proofs.Programs.{law_program}
use Rattle.setl_parse_reading.proofs.Growth.{program}

pub reading_is_sound : ReadingIsSound
reading_is_sound room toks tree h =
    let t = (law_program room).sound.took toks tree [] h in
    subst (λ (z : Tokens). grammar.program room z tree) (sym (t.parts ∙ append-nil t.used)) t.spelled

pub reading_is_complete : ReadingIsComplete
reading_is_complete room toks tree s = ap (reading.program room) (sym (append-nil toks)) ∙ (law_program room).complete.reads toks [] tree s refl

pub nestings_may_be_more : NestingsMayBeMore
nestings_may_be_more room more toks tree le s = (program room more le).to toks tree s

pub tree_is_unique : TreeIsUnique
tree_is_unique toks one two s t =
    let room = s.0 + t.0 in
    let first = reading_is_complete room toks one (nestings_may_be_more s.0 room toks one (omega arith) s.1) in
    let second = reading_is_complete room toks two (nestings_may_be_more t.0 room toks two (omega arith) t.1) in
    (ok_parts one two [] [] (sym first ∙ second)).0
