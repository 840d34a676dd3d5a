-- The place takes a list that a call makes.
use Rattle.std.proofs.Common.{◌≡◌, ◌<◌, ◌≤◌, ℕ, ◌+◌, ◌-◌, Bool, true, false, List, [], ◌∷◌, ◌++◌, length, Some, refl, arith}
use Rattle.std.specs.Prelude.{nat_lt, if◌then◌else◌}
use Rattle.csub_tree.specs.State.{Value, Core}
use Rattle.csub_tree.specs.Statement.{operands, any_unset}
use Rattle.csub_tree.specs.declared.tree.COperand.{COperand}
use Rattle.csub_tree.specs.declared.tree.COperand.TheVariants.{Var}
use Rattle.ll_code.specs.State.{Frame, Calling, At}
use Rattle.ll_code.specs.declared.program.LlType.TheVariants as type
use Rattle.ll_code.specs.declared.program.LlOp.{LlOp}
use Rattle.ll_code.specs.declared.program.LlOp.TheVariants as op
use Rattle.ll_code.specs.declared.program.LlExit.{LlExit}
use Rattle.ll_code.specs.declared.program.LlProgram.{LlProgram}
use Rattle.ll_texts.specs.Follows.{Lacked}
use Rattle.rpy_tree.specs.Value.{Value as Meant, Ref, Listed as ListedObject}
use Rattle.rpy_meaning.specs.World.{World, Answer, Gives, Lacks}
use Rattle.rtyper_layout.specs.Kinds.{kind_seen}
use Rattle.rtyper_layout.specs.Layout.{is_list}
use Rattle.rtyper_layout.specs.Types.{type_seen}
use Rattle.rtyper_data.specs.Seen.{Around, Place}
use Rattle.rtyper_list.specs.Operands.{of_list}
use Rattle.object_laws.specs.Known.{Known}
use Rattle.object_laws.specs.Done.{Follows}
use Rattle.object_laws.specs.Ghost.{Ghost}
use Rattle.object_laws.specs.Values.{Listed}
use Rattle.list_copy_laws.proofs.Called.{call_lacks, result_given}
use Rattle.list_copy_laws.proofs.Fresh.{MadeList}
use Rattle.list_copy_laws.proofs.Tests.{is_less, not_less}

-- what an operation answers that makes a list
abbrev pub after_list : World → List Meant → Answer
after_list w vs = if nat_lt w.left (1 + length vs) then Lacks else Gives (Ref (length w.heap)) (record w { heap = w.heap ++ ListedObject vs ∷ []; left = w.left - (1 + length vs) })

module _ (known : Known) (around : Around) (place : Place) (n : ℕ) (lists : of_list (kind_seen place.element) ≡ true) (typed : type_seen around.layout place.element ≡ type.Ptr n) (struct : is_list around.layout n ≡ true)
    (p : LlProgram) (raised : ℕ → Value) (arguments : List (List ℕ)) (rest : List LlOp) (e : LlExit) (frames : List Frame) (core : Core) (g : Ghost) (most below : ℕ) (world : World) (f m : ℕ) (xs : List COperand) (values : List Value) where
  pub list_given : (vs : List Meant) (many : ℕ) → operands core.vars xs ≡ values → any_unset values ≡ false → place.variable < m → m < length core.vars → below ≤ m
      → (world.left < 1 + length vs → (waits : List Frame) → Lacked p arguments (Calling f values waits core) core)
      → (1 + length vs ≤ world.left → (many ≤ most) × MadeList p arguments around.layout known g world.heap (world.left - (1 + length vs)) n vs many (λ waits. Calling f values waits core) core)
      → Follows 2 known around place p arguments (At (op.Call (Some m) f xs ∷ op.Set place.variable (Var m) ∷ rest) e frames core) rest e frames core g raised most below world (after_list world vs)
  list_given vs many same set inside room under lacks makes = by (nat_lt world.left (1 + length vs)) refl
    where
      by : (c : Bool) → nat_lt world.left (1 + length vs) ≡ c
          → Follows 2 known around place p arguments (At (op.Call (Some m) f xs ∷ op.Set place.variable (Var m) ∷ rest) e frames core) rest e frames core g raised most below world (if c then Lacks else Gives (Ref (length world.heap)) (record world { heap = world.heap ++ ListedObject vs ∷ []; left = world.left - (1 + length vs) }))
      by true h = call_lacks same set (op.Set place.variable (Var m) ∷ rest) (lacks (is_less world.left (1 + length vs) h))
      by false h =
          let made = makes (not_less world.left (1 + length vs) h) in
          let it = made.1 in
          result_given known around place p arguments rest e frames core g it.ghost below world (world.heap ++ ListedObject vs ∷ []) (world.left - (1 + length vs)) it.blocks core.statics many most it.head (Ref (length world.heap)) made.0 same set inside room under it.grown it.stands (let q = it.few in omega (arith, q)) it.returns it.set
          (Listed n (length world.heap) lists refl typed struct it.home)
