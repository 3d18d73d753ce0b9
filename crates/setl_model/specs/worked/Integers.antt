-- Worked rows of integers and booleans.
use Rattle.std.specs.Prelude.{List, [], ◌∷◌, ◌++◌, codes}
use Rattle.setl_operators_table.specs.declared.Operator.TheVariants.{Add, Subtract, Max, Min, Multiply, Divide, Modulo, Power, Negate, Abs, Even, Odd, Not}
use Rattle.setl_program.specs.declared.kinds.Connective.TheVariants.{And, Or, Implies}
use Rattle.setl_program.specs.Program.{Undefined, Connect, Choose}
use Rattle.setl_model_runs.specs.Events.{Om, Kind, Zero, Wide, Range as OutOfRange}
use Rattle.setl_program.specs.Source.{yes, no, number, quoted, one, two, minus, set_of}
use Rattle.setl_model.specs.Table.{Row, writes, all_stop}

-- quotients go towards 0, and remainders stand from 0 to below the divisor's absolute value
abbrev pub integer_rows : List Row
integer_rows =
    -- print(7 div -2, -7 div -2, 7 div 2, -7 mod -2, -7 mod 2, 7 mod -2, -6 mod 3);
    writes 0 (
    two Divide (number 7) (minus 2)
    ∷ two Divide (minus 7) (minus 2)
    ∷ two Divide (number 7) (number 2)
    ∷ two Modulo (minus 7) (minus 2)
    ∷ two Modulo (minus 7) (number 2)
    ∷ two Modulo (number 7) (minus 2)
    ∷ two Modulo (minus 6) (number 3)
    ∷ []) (codes "-3 3 3 1 1 1 0")
    -- print(2 - 5, -2 + 5, -4 * 3, abs -7, abs 7, -0);
    ∷ writes 0 (
    two Subtract (number 2) (number 5)
    ∷ two Add (minus 2) (number 5)
    ∷ two Multiply (minus 4) (number 3)
    ∷ one Abs (minus 7)
    ∷ one Abs (number 7)
    ∷ minus 0
    ∷ []) (codes "-3 3 -12 7 7 0")
    -- print(0 ** 0, 0 ** 5, -1 ** 3, 2 ** 0, -2 ** 2, 10 ** 38);
    ∷ writes 0 (
    two Power (number 0) (number 0)
    ∷ two Power (number 0) (number 5)
    ∷ two Power (minus 1) (number 3)
    ∷ two Power (number 2) (number 0)
    ∷ two Power (minus 2) (number 2)
    ∷ two Power (number 10) (number 38)
    ∷ []) (codes "1 0 -1 1 4 100000000000000000000000000000000000000")
    -- print(even 0, even -3, odd -3, odd 4, 3 max 9, 3 min 9, -1 max -2, 4 min 4);
    ∷ writes 0 (
    one Even (number 0)
    ∷ one Even (minus 3)
    ∷ one Odd (minus 3)
    ∷ one Odd (number 4)
    ∷ two Max (number 3) (number 9)
    ∷ two Min (number 3) (number 9)
    ∷ two Max (minus 1) (minus 2)
    ∷ two Min (number 4) (number 4)
    ∷ []) (codes "true false true false 9 3 -1 4")
    ∷ []

-- the integers from -2^127 to 2^127 - 1 are values, and no others
abbrev pub wide_rows : List Row
wide_rows =
    -- print(170141183460469231731687303715884105727, (-170141183460469231731687303715884105727 - 1), -2 ** 127,
    --   (-170141183460469231731687303715884105727 - 1) mod -1, (-170141183460469231731687303715884105727 - 1) div 1);
    writes 0 (
    number 170141183460469231731687303715884105727
    ∷ two Subtract (minus 170141183460469231731687303715884105727) (number 1)
    ∷ two Power (minus 2) (number 127)
    ∷ two Modulo (two Subtract (minus 170141183460469231731687303715884105727) (number 1)) (minus 1)
    ∷ two Divide (two Subtract (minus 170141183460469231731687303715884105727) (number 1)) (number 1)
    ∷ [])
    (codes "170141183460469231731687303715884105727 -170141183460469231731687303715884105728 -170141183460469231731687303715884105728 0 -170141183460469231731687303715884105728")
    -- wide: 170141183460469231731687303715884105727 + 1; (-170141183460469231731687303715884105727 - 1) - 1;
    --   -(-170141183460469231731687303715884105727 - 1); abs (-170141183460469231731687303715884105727 - 1);
    --   (-170141183460469231731687303715884105727 - 1) div -1; 170141183460469231731687303715884105727 * 2;
    --   (-170141183460469231731687303715884105727 - 1) * -1; 2 ** 127; -2 ** 128
    ∷ all_stop Wide (
    two Add (number 170141183460469231731687303715884105727) (number 1)
    ∷ two Subtract (two Subtract (minus 170141183460469231731687303715884105727) (number 1)) (number 1)
    ∷ one Negate (two Subtract (minus 170141183460469231731687303715884105727) (number 1))
    ∷ one Abs (two Subtract (minus 170141183460469231731687303715884105727) (number 1))
    ∷ two Divide (two Subtract (minus 170141183460469231731687303715884105727) (number 1)) (minus 1)
    ∷ two Multiply (number 170141183460469231731687303715884105727) (number 2)
    ∷ two Multiply (two Subtract (minus 170141183460469231731687303715884105727) (number 1)) (minus 1)
    ∷ two Power (number 2) (number 127)
    ∷ two Power (minus 2) (number 128)
    ∷ [])

-- the causes of stops, in their order
abbrev pub integer_stops : List Row
integer_stops =
    -- zero: 1 div 0; 0 div 0; 1 mod 0
    all_stop Zero (
    two Divide (number 1) (number 0)
    ∷ two Divide (number 0) (number 0)
    ∷ two Modulo (number 1) (number 0)
    ∷ [])
    -- range: 2 ** -1; 0 ** -1
    ++ all_stop OutOfRange (
    two Power (number 2) (minus 1)
    ∷ two Power (number 0) (minus 1)
    ∷ [])
    -- kind: 1 + 'a'; 'a' div 0; 'a' mod 0; 'a' ** -1; - 'a'; abs 'a'; even {}; odd true; 1 max 'a'; true min 1
    ++ all_stop Kind (
    two Add (number 1) (quoted (codes "a"))
    ∷ two Divide (quoted (codes "a")) (number 0)
    ∷ two Modulo (quoted (codes "a")) (number 0)
    ∷ two Power (quoted (codes "a")) (minus 1)
    ∷ one Negate (quoted (codes "a"))
    ∷ one Abs (quoted (codes "a"))
    ∷ one Even (set_of [])
    ∷ one Odd yes
    ∷ two Max (number 1) (quoted (codes "a"))
    ∷ two Min yes (number 1)
    ∷ [])
    -- om: om + 'a'; 'a' + om; om div 0; 0 ** om; - om; abs om; even om; odd om; om max 1; true min om
    ++ all_stop Om (
    two Add Undefined (quoted (codes "a"))
    ∷ two Add (quoted (codes "a")) Undefined
    ∷ two Divide Undefined (number 0)
    ∷ two Power (number 0) Undefined
    ∷ one Negate Undefined
    ∷ one Abs Undefined
    ∷ one Even Undefined
    ∷ one Odd Undefined
    ∷ two Max Undefined (number 1)
    ∷ two Min yes Undefined
    ∷ [])

-- `and`, `or` and `impl` evaluate their right part only where the left one does not decide
abbrev pub boolean_rows : List Row
boolean_rows =
    -- print(not true, not false, true and false, false or true, true impl false, true impl true);
    writes 0 (
    one Not yes
    ∷ one Not no
    ∷ Connect And yes no
    ∷ Connect Or no yes
    ∷ Connect Implies yes no
    ∷ Connect Implies yes yes
    ∷ []) (codes "false true false true false true")
    -- print(false and om, true or 5, false impl om, false and 1 div 0);
    ∷ writes 0 (
    Connect And no Undefined
    ∷ Connect Or yes (number 5)
    ∷ Connect Implies no Undefined
    ∷ Connect And no (two Divide (number 1) (number 0))
    ∷ []) (codes "false true true false")
    -- print(if true then 1 else om end, if false then 1 div 0 else 2 end);
    ∷ writes 0 (
    Choose yes (number 1) Undefined
    ∷ Choose no (two Divide (number 1) (number 0)) (number 2)
    ∷ []) (codes "1 2")
    -- kind: not 1; 1 and true; true and 1; false or 'a'; 'a' or true; true impl 3; 3 impl true; if 1 then 1 else 2 end
    ∷ all_stop Kind (
    one Not (number 1)
    ∷ Connect And (number 1) yes
    ∷ Connect And yes (number 1)
    ∷ Connect Or no (quoted (codes "a"))
    ∷ Connect Or (quoted (codes "a")) yes
    ∷ Connect Implies yes (number 3)
    ∷ Connect Implies (number 3) yes
    ∷ Choose (number 1) (number 1) (number 2)
    ∷ [])
    -- om: not om; om and false; true and om; false or om; om or true; true impl om; om impl true; if om then 1 else 2
    --   end
    ++ all_stop Om (
    one Not Undefined
    ∷ Connect And Undefined no
    ∷ Connect And yes Undefined
    ∷ Connect Or no Undefined
    ∷ Connect Or Undefined yes
    ∷ Connect Implies yes Undefined
    ∷ Connect Implies Undefined yes
    ∷ Choose Undefined (number 1) (number 2)
    ∷ [])
