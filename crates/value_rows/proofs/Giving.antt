-- Operations that give one of their operands, which is converted on the way to the result.
use Rattle.std.proofs.Common.{◌≡◌, ◌⊎◌, inl, inr, ◌<◌, ◌≤◌, ℕ, List, [], ◌++◌, length, Some, sym, ap, ◌∙◌, subst, arith}
use Rattle.std.proofs.lemmas.List.{append-nil}
use Rattle.ann_element.specs.declared.element.Element.{Element}
use Rattle.ann_lattice.specs.Order.{Below}
use Rattle.ann_lattice.specs.Shape.{Shape}
use Rattle.block_laws.specs.Operations.{Acts, IsOperation}
use Rattle.class_desc.specs.Tables.{Tables}
use Rattle.conversion_laws.specs.Asked.{asks_for}
use Rattle.conversion_laws.specs.Going.{Goes}
use Rattle.csub_tree.specs.State.{Core}
use Rattle.csub_tree.specs.Statement.{operand}
use Rattle.csub_tree.specs.declared.tree.COperand.TheVariants.{Var}
use Rattle.flow_graph.specs.declared.graph.Graph.{Graph}
use Rattle.flow_graph.specs.declared.graph.Op.{Op}
use Rattle.flow_runs.specs.Good.{IsGood}
use Rattle.growth_laws.specs.Growing.{Grows}
use Rattle.ll_code.specs.State.{At}
use Rattle.lower_laws.specs.Asked.{Ask, all_asked}
use Rattle.object_laws.specs.Ghost.{Ghost}
use Rattle.object_laws.specs.Represents.{Represents}
use Rattle.object_laws.specs.Values.{Given, Holds}
use Rattle.passing_laws.specs.Given.{IsGiven, Placed}
use Rattle.passing_laws.proofs.Giving.{results_are_given}
use Rattle.rpy_meaning.specs.Operations.{op}
use Rattle.rpy_meaning.specs.World.{World as MeantWorld, Gives, Bad}
use Rattle.rpy_tree.specs.Value.{Value as Meant}
use Rattle.rtyper_data.specs.Converting.{give}
use Rattle.rtyper_data.specs.Seen.{Place, Writing, type_at, type_of as type_of_operand}
use Rattle.rtyper_layout.specs.Types.{type_of}
use Rattle.rtyper_program.specs.Blocks.{lowered, op_of}
use Rattle.rtyper_program.specs.Graphs.{variables}
use Rattle.rtyper_program.specs.Seen.{operand_of, place_of}
use Rattle.run_laws.specs.Points.{is_keyed}
use Rattle.rtyped_runs.specs.Laws.{args_of, before}
use Rattle.rtyped_runs.specs.Parts.{OpIsWritten}
use Rattle.typed_rows.specs.Programs.{Typed, IsTyped, last, layout, numbers, same, setting, world}
use Rattle.typed_rows.specs.Rows.{IsOp, lowered_in}
use Rattle.typed_rows.proofs.Going.{inside}
use Rattle.value_rows.proofs.Conversions.{asks_for_of, conversions_stand}
use Rattle.value_rows.proofs.Premises.{asked_late}

-- the order of the annotation, as rows and as conversions have it
pub below_so : (t : Typed) → IsTyped t → (x z : Shape) → Below t.whole.tables.classes t.assigned.same x z → Below t.classes.classes (same t) x z
below_so t typed x z h = subst (λ (tables : Tables). Below tables.classes (same t) x z) typed.sees.classes_are (subst (λ s. Below t.whole.tables.classes s x z) typed.sees.same_is h)

-- the operation gives the value of this variable, of which this is known too, wherever it is as runs ask
abbrev pub GivesIt : Typed → ℕ → Graph → Op → ℕ → Element → Type 0
GivesIt t n graph o a from = (g : Ghost) (core : Core) (w : MeantWorld) (vs : List Meant) → Represents (layout t) t.seen g w.heap w.left core.blocks core.statics → Given t.seen (world t).around g core (args_of (lowered_in t n graph) o) vs
    → IsGood t.seen.program (setting t).made (is_keyed (setting t) n o) o.op w vs → (v : Meant) × (op t.seen.program o.covered o.op vs w ≡ Gives v w) × Holds (layout t) t.seen g (Some from) (operand core.vars (Var a)) v

-- it does, or the operation is wrong
abbrev pub GivesItIfAny : Typed → ℕ → Graph → Op → ℕ → Element → Type 0
GivesItIfAny t n graph o a from = (g : Ghost) (core : Core) (w : MeantWorld) (vs : List Meant) → Represents (layout t) t.seen g w.heap w.left core.blocks core.statics → Given t.seen (world t).around g core (args_of (lowered_in t n graph) o) vs
    → IsGood t.seen.program (setting t).made (is_keyed (setting t) n o) o.op w vs → ((v : Meant) × (op t.seen.program o.covered o.op vs w ≡ Gives v w) × Holds (layout t) t.seen g (Some from) (operand core.vars (Var a)) v) ⊎ (op t.seen.program o.covered o.op vs w ≡ Bad)

module _ (t : Typed) (typed : IsTyped t) (n : ℕ) (graph : Graph) (o : Op) (is : IsOp t n o) (a : ℕ) (from : Element) (low : a < length (variables t.known (world t) n)) (w : Writing) (late : Grows (op_of (lowered_in t n graph) o w).found (last t)) (room : length (variables t.known (world t) n) ≤ length w.body.types) where
  abbrev place : Place
  place = place_of (lowered_in t n graph) o.result

  abbrev asks_of_it : List Ask
  asks_of_it = asks_for (layout t) (type_of (layout t) from) (type_at (world t).around place)

  gives_on : (k : IsGiven t.seen (world t).around place (Some from) (Var a) (before o w)) → Grows (all_asked asks_of_it (before o w).found) (last t) → GivesItIfAny t n graph o a from → IsOperation (setting t) n o (length w.body.types) (length k.new) k.ops
  gives_on k asked gives rest e frames core g world vs memory left enough given good = by (gives g core world vs memory given good)
    where
      by : ((v : Meant) × (op t.seen.program o.covered o.op vs world ≡ Gives v world) × Holds (layout t) t.seen g (Some from) (operand core.vars (Var a)) v) ⊎ (op t.seen.program o.covered o.op vs world ≡ Bad)
          → Acts (setting t) n o (length w.body.types) (At (k.ops ++ rest) e frames core) rest e frames core g world (op t.seen.program o.covered o.op vs world)
      by (inr bad) = subst (Acts (setting t) n o (length w.body.types) (At (k.ops ++ rest) e frames core) rest e frames core g world) (sym bad) tt
      by (inl m) =
          let i = (inside t n graph o is w room).result in
          let c : Placed t.seen (setting t).around place t.p t.arguments (At (k.ops ++ rest) e frames core) rest e frames core g world.heap world.left (length w.body.types) _ _ m.0 =
          k.follows t.p (numbers t) t.seen.exception t.arguments rest e frames core g world.heap world.left m.0 typed.small.has (conversions_stand t typed asks_of_it (before o w).found (asks_for_of (layout t) (type_of (layout t) from) (type_at (setting t).around place)) asked) memory left enough (omega (arith, i, enough)) (omega (arith, low, room)) m.2 in
          subst (Acts (setting t) n o (length w.body.types) (At (k.ops ++ rest) e frames core) rest e frames core g world) (sym m.1)
          (record {
            end = c.end;
            text = [];
            way = record { most = _; leads = c.leads };
            out = sym (append-nil world.out);
            ghost = c.ghost;
            grown = c.grown;
            stands = c.stands;
            left = left ∙ sym (ap (λ (k : Core). k.steps) c.memory);
            holds = c.holds;
            keeps = record { others = c.others; room = c.room; function_is = c.function };
          })

  pub is_given_if_any : Goes (layout t) t.seen (Some from) place.element → type_of_operand (world t).around (operand_of (lowered_in t n graph) a) ≡ type_of (layout t) from
      → lowered (world t) o.op place (args_of (lowered_in t n graph) o) (before o w) ≡ give (world t).around place (Var a) (type_of_operand (world t).around (operand_of (lowered_in t n graph) a)) (before o w)
      → GivesItIfAny t n graph o a from → OpIsWritten (setting t) (lowered_in t n graph) o w
  unfolding op_of
  is_given_if_any goes typed_so so gives =
      let k : IsGiven t.seen (world t).around place (Some from) (Var a) (before o w) = results_are_given t.seen (world t).around place (Some from) (Var a) (before o w) typed.small.no_tuple goes in
      let made = so ∙ ap (λ u. give (world t).around place (Var a) u (before o w)) typed_so ∙ k.is in
      record {
        ops = k.ops;
        new = k.new;
        written = ap (λ (made : Writing). made.body.ops) made;
        types = ap (λ (made : Writing). made.body.types) made;
        is = gives_on k (asked_late t n graph o w asks_of_it (ap (λ (made : Writing). made.found) made) late) gives;
      }

  pub is_given : Goes (layout t) t.seen (Some from) place.element → type_of_operand (world t).around (operand_of (lowered_in t n graph) a) ≡ type_of (layout t) from
      → lowered (world t) o.op place (args_of (lowered_in t n graph) o) (before o w) ≡ give (world t).around place (Var a) (type_of_operand (world t).around (operand_of (lowered_in t n graph) a)) (before o w)
      → GivesIt t n graph o a from → OpIsWritten (setting t) (lowered_in t n graph) o w
  is_given goes typed_so so gives = is_given_if_any goes typed_so so (λ g core w vs memory given good. inl (gives g core w vs memory given good))
