use Rattle.std.proofs.Common.{◌≡◌, ◌∙◌, ℕ, List, map, ap, sym}
use Rattle.std.specs.Prelude.{Result, Ok, Err, IfOk}
use Rattle.setl_code.specs.declared.code.OwnName.{OwnName}
use Rattle.setl_code.specs.Plain.{plain_name}
use Rattle.setl_gen_emitter.specs.Table.{Table}
use Rattle.setl_gen_emitter.proofs.names.Names.names.Goals as goal

same_names : {E : Type 0} (r : Result (List OwnName) E) (n : ℕ) (names : List OwnName) (t : Table) → IfOk r (λ all. all ≡ names) → n ≡ t.body → map (plain_name n) names ≡ t.names → IfOk r (λ all. map (plain_name t.body) all ≡ t.names)
same_names (Ok all) n names t h e f = ap (map (plain_name t.body)) h ∙ ap (λ n. map (plain_name n) names) (sym e) ∙ f
same_names (Err x) n names t h e f = tt

pub returns : goal.returns
returns c =
    same_names c.copied_names.result c.self.inside.body c.as_slice.result.now c.args.self.now c.copied_names.ensures (ap (λ (t : Table). t.body) c.self.view_is) (ap (map (plain_name c.self.inside.body)) c.as_slice.ensures ∙ ap (λ (t : Table). t.names) c.self.view_is)
