use Rattle.std.proofs.Common.{◌≡◌, ◌∙◌, ◌++◌, ◌∷◌, ◌-◌, [], ap, sym, arith, rules, length, List, Option, Some, None, replicate}
use Rattle.std.proofs.lemmas.List.{append_assoc}
use Rattle.setl_value.specs.Datum.{Datum}
use Rattle.setl_value.specs.code.DatumOf.{datum}
use Rattle.setl_value.specs.WellFormed.{trim}
use Rattle.setl_tuple.specs.Tuples.{put_of}
use Rattle.setl_tuple.proofs.Depths.{greatest, greatest-append, greatest-om}
use Rattle.setl_tuple.proofs.Puts.{put_past}
use Rattle.setl_tuple.proofs.Trimmed.{trim-trimmed, trimmed-append, trimmed-gap, trimmed_tuple}
use Rattle.setl_tuple.proofs.components.put_past_end.Goals as goal

pub of-requires : goal.of-requires
of-requires c =
    let n = c.in-Ok.index - c.len.result in
    let gap : List (Option Datum) = replicate n None in
    let last = Some (datum c.args.v) ∷ [] in
    record { shallow = omega (arith, ap greatest c.in_ok-parts.ensures, greatest-append gap last, greatest-om n, c.requires.shallow) }

pub returns-clause-put : goal.returns-clause-put
returns-clause-put c =
    let t = c.args.t.now in
    let last : List (Option Datum) = Some (datum c.args.v) ∷ [] in
    let i = c.in-Ok.index in
    let n = i - length t in
    let more : List (Option Datum) = replicate n None ++ last in
    let tail = c.in_ok-tail.ensures.trimmed ∙ ap trim (c.in_ok-parts.ensures ∙ ap (λ k. replicate (i - k) None ++ last) c.len.ensures) ∙ trim-trimmed more (trimmed-gap n (datum c.args.v)) in
    let same : i ≡ c.args.index = search rules in
    c.in_ok-append.ensures.joined ∙ ap (λ l. t ++ l) tail
    ∙ sym (trim-trimmed (t ++ more) (trimmed-append t more (trimmed_tuple t c.learn.ensures) (trimmed-gap n (datum c.args.v))))
    ∙ ap trim (sym (append_assoc t (replicate n None) last))
    ∙ put_past t i (Some (datum c.args.v)) (omega (arith, same, c.requires.past)) ∙ ap (λ k. put_of t k (Some (datum c.args.v))) same
