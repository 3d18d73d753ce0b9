use Rattle.std.proofs.Common.{◌≡◌, Bool, true, false, not, if◌then◌else◌, sym, ap, ◌∙◌}
use denote.Enum.Bare.{sameb}
use Rattle.setl_tree.specs.declared.kind.Kind.{Kind}
use Rattle.setl_tree.specs.declared.kind.Kind.TheVariants as k
use Rattle.setl_tree.specs.contracts.kind.Kind.{the_type}
use Rattle.setl_token.specs.declared.TokenKind.TheVariants as kind
use Rattle.setl_token.specs.Bytes.{lower}
use Rattle.setl_token.specs.Spellings.{is_reserved}
use Rattle.setl_token.proofs.Words.{reserved_is}
use Rattle.setl_token.proofs.pieces.word_kind.Goals as goal

pub returns-then-eq : goal.returns-then-eq
returns-then-eq c =
    let t = lower c.args.text.now in
    let e : is_reserved t ≡ false = reserved_is t ∙ ap (λ (x : Kind). not (sameb the_type x k.SourceEnd)) (sym c.spelled_kind.ensures) ∙ ap not (sym c.eq.ensures ∙ c.if-eq.true) in
    sym (ap (λ (b : Bool). if b then kind.Word else kind.Name) e)

pub returns-else-eq : goal.returns-else-eq
returns-else-eq c =
    let t = lower c.args.text.now in
    let e : is_reserved t ≡ true = reserved_is t ∙ ap (λ (x : Kind). not (sameb the_type x k.SourceEnd)) (sym c.spelled_kind.ensures) ∙ ap not (sym c.eq.ensures ∙ c.if-eq.false) in
    sym (ap (λ (b : Bool). if b then kind.Word else kind.Name) e)
