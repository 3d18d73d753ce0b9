use Rattle.std.proofs.Common.{◌≡◌, ℕ, ◌+◌, [], Ok, refl, sym, ap, subst, ◌∙◌, arith, inl, inr}
use Rattle.setl_tree.specs.Canonical.{canonical}
use Rattle.setl_tree.specs.Tokens.{Tokens}
use Rattle.setl_parse_reading.specs.declared.fault.Fault.TheVariants.{Nesting}
use Rattle.setl_parse_reading.specs.code.ReadPrograms as reading
use Rattle.setl_show.specs.Text.{text_of}
use Rattle.setl_parse_cursor.specs.Plain.{plain_tokens}
use Rattle.setl_show_laws.specs.Lines.{bare_tree}
use Rattle.setl_show_laws.specs.Reading.{IsSpelledAs}
use Rattle.setl_show_laws.specs.Claims.{ShownTextHasTokens, ShownTextDerives, ShownTextDerivesNoOther, ShownTextIsRead, ShownTextStays}
use Rattle.setl_show_laws.proofs.laws.shown_text_is_read_again.Goals as goal

pub returns : goal.returns
returns c =
    let has_tokens : ShownTextHasTokens = λ l tree h.
    let s = c.canonical_text_is_spelled.ensures l.source (plain_tokens l) tree (c.source_is_spelled.ensures l h.spelled) h.derived in
    (record { source = text_of (canonical tree); tokens = s.lexemes }, record { text = refl; spelled = s.spelled }) in
    let derives : ShownTextDerives = λ l shown tree h s.
    c.canonical_text_derives.ensures l.source (plain_tokens l) tree (c.source_is_spelled.ensures l h.spelled) h.derived (plain_tokens shown)
    (subst (λ z. IsSpelledAs z (plain_tokens shown)) s.text (c.source_is_spelled.ensures shown s.spelled)) in
    let no_other : ShownTextDerivesNoOther = λ l shown tree other h s o.
    let d = derives l shown tree h s in
    d.same ∙ ap bare_tree (c.tree_is_unique.ensures.unique (plain_tokens shown) d.it other d.derived o) in
    let is_read : ShownTextIsRead = λ l shown tree room h s.
    let toks : Tokens = plain_tokens shown in
    let d = derives l shown tree h s in
    let most : ℕ = room + d.derived.0 in
    let read : reading.program most toks ≡ Ok (d.it, []) = c.reading_meets_grammar.ensures.complete most toks d.it (c.tree_is_unique.ensures.more d.derived.0 most toks d.it (omega arith) d.derived.1) in
    elim (c.nestings_may_be_fewer.ensures room most toks (omega arith)) [
      | inl same ↦ inl (d.it, c.reading_meets_grammar.ensures.sound room toks d.it (same ∙ read), d.same)
      | inr deep ↦ inr (deep.0, c.faults_are_exact.ensures.fault room toks (Nesting deep.0) deep.1)
    ] in
    let stays : ShownTextStays = λ l shown tree other h s o.
    sym (c.same_trees_are_shown_alike.ensures tree other (no_other l shown tree other h s o)) ∙ sym s.text in
    record { has_tokens = has_tokens; derives = derives; no_other = no_other; is_read = is_read; stays = stays }
