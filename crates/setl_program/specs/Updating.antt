-- Programs in which the operator of each update is one that may stand there.
use Rattle.std.specs.Prelude.{◌≡◌, Bool, true, false, List, [], ◌∷◌}
use Rattle.setl_operators_table.specs.declared.Operator.{Operator}
use Rattle.setl_operators_table.specs.declared.Operator.TheVariants.{Add, Subtract, Multiply, Power, Divide, Modulo, Max, Min, With, Less, Lessf, Npow}
use Rattle.setl_program.specs.Program.{Stmt, Update, If, For, While, Block, no_stmt, more_stmts, Procedure, Program}

-- the operators that an update may have
abbrev pub is_updating : Operator → Bool
is_updating Add = true
is_updating Subtract = true
is_updating Multiply = true
is_updating Power = true
is_updating Divide = true
is_updating Modulo = true
is_updating Max = true
is_updating Min = true
is_updating With = true
is_updating Less = true
is_updating Lessf = true
is_updating Npow = true
is_updating o = false

abbrev mutual
  pub UpdatingStmt : Stmt → Type 0
  UpdatingStmt (Update o p e) = is_updating o ≡ true
  UpdatingStmt (If e x y) = UpdatingBlock x × UpdatingBlock y
  UpdatingStmt (For is t x) = UpdatingBlock x
  UpdatingStmt (While e x) = UpdatingBlock x
  UpdatingStmt s = Unit {0}

  pub UpdatingBlock : Block → Type 0
  UpdatingBlock no_stmt = Unit {0}
  UpdatingBlock (more_stmts line s rest) = UpdatingStmt s × UpdatingBlock rest

abbrev pub UpdatingProcedures : List Procedure → Type 0
UpdatingProcedures [] = Unit {0}
UpdatingProcedures (p ∷ ps) = UpdatingBlock p.body × UpdatingProcedures ps

abbrev pub Updating : Program → Type 0
Updating p = UpdatingBlock p.main × UpdatingProcedures p.procedures
