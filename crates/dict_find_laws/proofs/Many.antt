-- The place takes a list that a call makes in so many blocks, at a cost.
use Rattle.std.proofs.Common.{◌≡◌, ◌<◌, ◌≤◌, ℕ, ◌+◌, ◌-◌, Bool, true, false, List, [], ◌∷◌, ◌++◌, length, Option, Some, refl, sym, subst, ◌∙◌, arith}
use Rattle.std.specs.Prelude.{nat_lt, if◌then◌else◌, slice_get}
use Rattle.std.proofs.lemmas.List.{append-nil, length-set}
use Rattle.csub_tree.specs.State.{Value, Block, Core}
use Rattle.csub_tree.specs.Operation.{is_unset}
use Rattle.csub_tree.specs.Statement.{operands, any_unset}
use Rattle.csub_tree.specs.declared.tree.COperand.{COperand}
use Rattle.csub_tree.specs.declared.tree.COperand.TheVariants.{Var}
use Rattle.ll_code.specs.State.{Frame, State, Calling, At}
use Rattle.ll_code.specs.declared.program.LlType.TheVariants as type
use Rattle.ll_code.specs.declared.program.LlOp.{LlOp}
use Rattle.ll_code.specs.declared.program.LlOp.TheVariants as op
use Rattle.ll_code.specs.declared.program.LlExit.{LlExit}
use Rattle.ll_code.specs.declared.program.LlProgram.{LlProgram}
use Rattle.ll_leads.specs.Path.{Leads}
use Rattle.ll_leads.proofs.Joined.{leads_then, leads_more}
use Rattle.ll_texts.specs.Follows.{Lacked}
use Rattle.rpy_tree.specs.Value.{Value as Meant, Ref, Listed as ListedObject, Heap}
use Rattle.rpy_meaning.specs.World.{World, Answer, Gives, Lacks}
use Rattle.rtyper_layout.specs.declared.layout.Layout.{Layout}
use Rattle.rtyper_layout.specs.Kinds.{kind_seen}
use Rattle.rtyper_layout.specs.Layout.{is_list}
use Rattle.rtyper_layout.specs.Types.{type_seen}
use Rattle.rtyper_data.specs.Seen.{Around, Place}
use Rattle.rtyper_list.specs.Operands.{of_list}
use Rattle.lower_laws.proofs.Doing.{after}
use Rattle.lower_laws.proofs.Single.{sets}
use Rattle.object_laws.specs.Known.{Known}
use Rattle.object_laws.specs.Done.{Came, Follows}
use Rattle.object_laws.specs.Ghost.{Ghost, Grown, ListOf}
use Rattle.object_laws.specs.Represents.{Represents}
use Rattle.object_laws.specs.Values.{Holds, Listed}
use Rattle.object_laws.proofs.Calling.{Returns, back, calls_back}
use Rattle.object_laws.proofs.Passing.{is_set_at, is_kept_at}
use Rattle.list_copy_laws.proofs.Called.{call_lacks}
use Rattle.list_copy_laws.proofs.Tests.{is_less, not_less}

-- what a call leaves that makes a list, with so many blocks more
pub record MadeMany (p : LlProgram) (args : List (List ℕ)) (layout : Layout) (known : Known) (g : Ghost) (heap : Heap) (fewer n : ℕ) (vs : List Meant) (extra many : ℕ) (s : List Frame → State) (core : Core) : Type 0 where
  pub blocks : List (Option Block)
  pub head : Value
  pub ghost : Ghost
  pub grown : Grown g ghost
  pub stands : Represents layout known ghost (heap ++ ListedObject vs ∷ []) fewer blocks core.statics
  pub home : slice_get ghost.homes (length heap) ≡ Some (record { sort = ListOf n; head = head })
  pub set : is_unset head ≡ false
  pub few : length blocks ≤ length core.blocks + extra
  pub returns : (waits : List Frame) → Returns p args many (s waits) head waits (record core { blocks = blocks; steps = fewer })

-- what an operation answers that makes a list at this cost
abbrev pub after_cost : World → ℕ → List Meant → Answer
after_cost w cost vs = if nat_lt w.left cost then Lacks else Gives (Ref (length w.heap)) (record w { heap = w.heap ++ ListedObject vs ∷ []; left = w.left - cost })

module _ (extra : ℕ) (known : Known) (around : Around) (place : Place) (n : ℕ) (lists : of_list (kind_seen place.element) ≡ true) (typed : type_seen around.layout place.element ≡ type.Ptr n) (struct : is_list around.layout n ≡ true)
    (p : LlProgram) (raised : ℕ → Value) (arguments : List (List ℕ)) (rest : List LlOp) (e : LlExit) (frames : List Frame) (core : Core) (g : Ghost) (most below : ℕ) (world : World) (f m : ℕ) (xs : List COperand) (values : List Value) where
  list_comes : (vs : List Meant) (fewer many : ℕ) → many ≤ most → operands core.vars xs ≡ values → any_unset values ≡ false → place.variable < m → m < length core.vars → below ≤ m → MadeMany p arguments around.layout known g world.heap fewer n vs extra many (λ waits. Calling f values waits core) core
      → Came extra known around place p arguments (At (op.Call (Some m) f xs ∷ op.Set place.variable (Var m) ∷ rest) e frames core) rest e frames core g most below world (Ref (length world.heap)) (record world { heap = world.heap ++ ListedObject vs ∷ []; left = fewer })
  list_comes vs fewer many fits same set inside room under_m it =
      let mid : Core = back core (record core { blocks = it.blocks; steps = fewer }) (Some m) it.head in
      let long : length mid.vars ≡ length core.vars = length-set core.vars m it.head in
      let way : Leads p arguments many (At (op.Call (Some m) f xs ∷ op.Set place.variable (Var m) ∷ rest) e frames core) [] (At (op.Set place.variable (Var m) ∷ rest) e frames mid) = calls_back many same set it.returns in
      let way2 : Leads p arguments 0 (At (op.Set place.variable (Var m) ∷ rest) e frames mid) [] (At rest e frames (after mid place.variable it.head)) = sets it.head (is_set_at core m it.head room) it.set in
      record {
        end = after mid place.variable it.head;
        text = [];
        leads = leads_more (many + 0) most (omega (arith, fits)) (leads_then way way2);
        ghost = it.ghost;
        grown = it.grown;
        stands = it.stands;
        holds = subst (λ x. Holds around.layout known it.ghost place.element x (Ref (length world.heap))) (sym (is_set_at mid place.variable it.head (omega (arith, inside, room, long)))) (Listed n (length world.heap) lists refl typed struct it.home);
        few = it.few;
        memory = refl;
        others = λ k under other. is_kept_at mid place.variable k it.head other ∙ is_kept_at core m k it.head (λ q. absurd (omega (arith, under, under_m, q)));
        room = length-set mid.vars place.variable it.head ∙ long;
        function = refl;
        block = refl;
        out = sym (append-nil world.out);
      }

  pub many_given : (cost : ℕ) (vs : List Meant) (many : ℕ) → operands core.vars xs ≡ values → any_unset values ≡ false → place.variable < m → m < length core.vars → below ≤ m
      → (world.left < cost → (waits : List Frame) → Lacked p arguments (Calling f values waits core) core)
      → (cost ≤ world.left → (many ≤ most) × MadeMany p arguments around.layout known g world.heap (world.left - cost) n vs extra many (λ waits. Calling f values waits core) core)
      → Follows extra known around place p arguments (At (op.Call (Some m) f xs ∷ op.Set place.variable (Var m) ∷ rest) e frames core) rest e frames core g raised most below world (after_cost world cost vs)
  many_given cost vs many same set inside room under lacks makes = by (nat_lt world.left cost) refl
    where
      by : (c : Bool) → nat_lt world.left cost ≡ c
          → Follows extra known around place p arguments (At (op.Call (Some m) f xs ∷ op.Set place.variable (Var m) ∷ rest) e frames core) rest e frames core g raised most below world (if c then Lacks else Gives (Ref (length world.heap)) (record world { heap = world.heap ++ ListedObject vs ∷ []; left = world.left - cost }))
      by true h = call_lacks same set (op.Set place.variable (Var m) ∷ rest) (lacks (is_less world.left cost h))
      by false h = (let made = makes (not_less world.left cost h) in list_comes vs (world.left - cost) many made.0 same set inside room under made.1)
