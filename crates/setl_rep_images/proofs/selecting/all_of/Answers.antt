use Rattle.std.proofs.Common.{◌∙◌, Some, ap, sym, subst}
use Rattle.setl_value.specs.Datum.{set_of}
use Rattle.setl_rep_forms.specs.Stands.{stands, IsContent}
use Rattle.setl_rep_plain.specs.Standing.{held_value}
use Rattle.setl_rep_tables.specs.Tables.{images_of}
use Rattle.setl_rep_images.proofs.Selected.{set_of_content}
use Rattle.setl_rep_images.proofs.selecting.all_of.Goals as goal

pub returns-then-many-clause-value : goal.returns-then-many-clause-value
returns-then-many-clause-value c =
    let content = held_value c.args.bases.now c.args.c.now in
    ap (stands c.args.bases.now) c.in_ok-copy.ensures.same
    ∙ set_of_content content (subst (λ m. IsContent m content) c.if-many.true c.requires.content)
    ∙ ap (λ m. Some (set_of (images_of m content))) (sym c.if-many.true)
