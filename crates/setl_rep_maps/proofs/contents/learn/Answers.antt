use Rattle.std.proofs.Common.{◌∙◌, sym, ap, subst, nat_eq}
use Rattle.std.specs.List.{IsDistinct}
use Rattle.std.specs.Map.{keys_of}
use Rattle.setl_rep_forms.specs.FormOf.{form, of_sparse_map}
use Rattle.setl_rep_maps.specs.Contents.{IsKeyedForm}
use Rattle.setl_rep_maps.proofs.Entries.{sparse_keyed}
use Rattle.setl_rep_maps.proofs.contents.learn.Goals as goal

pub returns-in-SparseMap : goal.returns-in-SparseMap
returns-in-SparseMap c =
    let cs = c.in-SparseMap.table in
    subst IsKeyedForm (sym (ap form c.in-SparseMap.is ∙ of_sparse_map c.in-SparseMap.field-0 c.in-SparseMap.field-1 cs))
    (sparse_keyed cs.value (subst (λ es. IsDistinct nat_eq (keys_of es)) c.deref.ensures c.learn.ensures))
