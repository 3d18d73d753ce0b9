-- Programs whose code names only what is there: variables of the whole program stand in `var`, and an update has a binary
-- operator.
use Rattle.std.specs.Prelude.{◌≡◌, true, List, [], ◌∷◌, map}
use Rattle.setl_model_runs.specs.Variable.{Variable, Global, Own, Bound}
use Rattle.setl_program.specs.Program.{Block, Procedure, Program}
use Rattle.setl_program.specs.Updating.{UpdatingBlock}
use Rattle.setl_code.specs.Names.{is_among, in_block}

-- those of the whole program are among these
abbrev pub AreAmong : List Variable → List Variable → Type 0
AreAmong vars [] = Unit {0}
AreAmong vars (Global name ∷ xs) = (is_among vars (Global name) ≡ true) × AreAmong vars xs
AreAmong vars (Own body name ∷ xs) = AreAmong vars xs
AreAmong vars (Bound former name ∷ xs) = AreAmong vars xs

abbrev pub NamedBlock : List Variable → Block → Type 0
NamedBlock vars b = AreAmong vars (in_block b) × UpdatingBlock b

abbrev pub NamedProcedures : List Variable → List Procedure → Type 0
NamedProcedures vars [] = Unit {0}
NamedProcedures vars (p ∷ ps) = NamedBlock vars p.body × NamedProcedures vars ps

abbrev pub Named : Program → Type 0
Named p = NamedBlock (map Global p.vars) p.main × NamedProcedures (map Global p.vars) p.procedures
