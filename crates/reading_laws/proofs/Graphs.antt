-- The operations of flow graphs, and what links pass on, are tidy.
use Rattle.std.proofs.Common.{◌≡◌, ◌<◌, ◌≤◌, ℕ, zero, suc, ◌+◌, ◌==◌, ◌||◌, Bool, true, false, List, [], ◌∷◌, ◌++◌, length, map, slice_get, Option, Some, None, refl, sym, ap, ◌∙◌, subst, arith}
use Rattle.std.specs.Prelude.{if◌then◌else◌, ◌≢◌}
use Rattle.std.proofs.lemmas.Bool.Decides.{nat_tests}
use Rattle.std.proofs.lemmas.List.{append_cancel_left}
use Rattle.csub_tree.specs.declared.tree.COperand.{COperand}
use Rattle.csub_tree.specs.declared.tree.COperand.TheVariants.{Var}
use Rattle.ll_code.specs.declared.program.LlType.{LlType}
use Rattle.ll_code.specs.declared.program.LlType.TheVariants as type
use Rattle.ll_code.specs.declared.program.LlOp.{LlOp}
use Rattle.ll_code.specs.declared.program.LlProgram.{LlProgram}
use Rattle.ll_code.specs.declared.program.LlStage.TheVariants as stage
use Rattle.ll_live.specs.Live.{among, variables_of}
use Rattle.flow_graph.specs.declared.graph.Link.{Link}
use Rattle.flow_graph.specs.declared.graph.Op.{Op}
use Rattle.rpy_meaning.specs.declared.row.Covers.{Covers}
use Rattle.rpy_meaning.specs.declared.row.RowOp.{RowOp}
use Rattle.rtyper_data.specs.declared.found.Found.{Found}
use Rattle.rtyper_data.specs.Converting.{default_constant, default_operand}
use Rattle.rtyper_data.specs.Finding.{nothing as no_covers, same_type}
use Rattle.rtyper_data.specs.Seen.{Operand, Place, Writing, writing, kind_of, type_of}
use Rattle.rtyper_op.specs.Lowering.{is_never}
use Rattle.rtyper_dict.specs.Lowering.{is_dict_op, is_of_dicts, lower_dict_op}
use Rattle.rtyper_class.specs.Lowering.{lower_class_op}
use Rattle.rtyper_class.specs.Seen.{World}
use Rattle.rtyper_program.specs.declared.links.Caught.{Caught}
use Rattle.rtyper_program.specs.Blocks.{lowered, op_of, with_covered}
use Rattle.rtyper_program.specs.Links.{arguments, inputs_at, link_of, passed, read_as, typed, with_argument}
use Rattle.rtyper_program.specs.Seen.{Lowered, element_at, operand_of, place_of, type_at}
use Rattle.growth_laws.specs.Growing.{Grows}
use Rattle.growth_laws.proofs.Growing.{same_found}
use Rattle.throw_laws.specs.Pieces.{AllIn}
use Rattle.throw_laws.specs.Ready.{AllFit, ReadIn, through}
use Rattle.catch_laws.specs.Caught.{ReadsInside}
use Rattle.catch_laws.proofs.Reading.{here_in, left_in, right_in}
use Rattle.reading_laws.specs.Operations.{AreTyped, ConversionsFit, HaveTypes, OperationsFit, OperationsRead, OperationsReadInside, Suits, operands_of}
use Rattle.reading_laws.specs.Suits.{lower_class_suits, lower_dict_suits, suits}
use Rattle.reading_laws.specs.Tidy.{AreSet, AreThere, CallsGive, IsSet, IsThere, Setup, Stands, Tidy, Wider, taken, target}
use Rattle.reading_laws.proofs.Steps.{all_more, among_set, args_more, as_tidy, asked, both_set, held, if_taken, more, nothing, still, then_tidy, variable}
use Rattle.reading_laws.proofs.Values.{value_as_tidy}
use Rattle.reading_laws.proofs.Classes.{lower_class_op_tidy, never_class_tidy}
use Rattle.reading_laws.proofs.Dicts.{lower_dict_op_tidy}

-- ---- operations

-- what is covered is asked for by no one
covered : {f : Setup} {s : List ℕ} (c : Covers) (w : Writing) → Tidy f s [] w (with_covered c w)
covered c w = asked (record w.found { covered = c }) w (let g : Grows w.found w.found = same_found w.found in record { needs = g.needs; caught = g.caught; together = g.together; statics = g.statics; smalls = g.smalls; sites = g.sites; first = g.first })

module _ {f : Setup} (c : Stands f) where
  -- operands that may be there are, or one never is
  lowered_tidy : {s : List ℕ} (o : RowOp) (args : List Operand) (w : Writing) → (is_never args ≡ false → AreThere f args s) → Tidy f s (taken (suits f.world o f.place args) f) w (lowered f.world o f.place args w)
  lowered_tidy {s} o args w h = on (is_never args) refl
    where
      on : (b : Bool) → is_never args ≡ b → Tidy f s (taken (suits f.world o f.place args) f) w (lowered f.world o f.place args w)
      on true e = subst (λ (b : Bool). Tidy f s (taken (if b then lower_dict_suits f.world.around o f.place args else lower_class_suits f.world o f.place args) f) w (if b then lower_dict_op f.world.around o f.place args w else lower_class_op f.world o f.place args w)) (sym (no_dict e)) (never_class_tidy c o args w e)
        where
          no_dict : is_never args ≡ true → is_dict_op o args ≡ false
          no_dict e = cc
      on false e = if_taken (is_dict_op o args) (lower_dict_suits f.world.around o f.place args) (lower_class_suits f.world o f.place args) _ _ (lower_dict_op_tidy c o args w (h e)) (lower_class_op_tidy c o args w (h e))

  -- an operation of a flow graph, whose result goes to its place
  op_tidy : {s : List ℕ} (l : Lowered) (o : Op) (w : Writing) → l.world ≡ f.world → place_of l o.result ≡ f.place → (is_never (operands_of l o.args) ≡ false → AreThere f (operands_of l o.args) s)
      → Tidy f s (taken (suits l.world o.op (place_of l o.result) (operands_of l o.args)) f) w (op_of l o w)
  unfolding op_of
  op_tidy {s} l o w e d h = subst (λ (world : World). Tidy f s (taken (suits world o.op (place_of l o.result) (operands_of l o.args)) f) w (with_covered no_covers (lowered world o.op (place_of l o.result) (operands_of l o.args) (with_covered o.covered w)))) (sym e)
      (subst (λ (place : Place). Tidy f s (taken (suits f.world o.op place (operands_of l o.args)) f) w (with_covered no_covers (lowered f.world o.op place (operands_of l o.args) (with_covered o.covered w)))) (sym d) in_place)
    where
      args : List Operand
      args = operands_of l o.args

      in_place : Tidy f s (taken (suits f.world o.op f.place args) f) w (with_covered no_covers (lowered f.world o.op f.place args (with_covered o.covered w)))
      in_place =
          then_tidy (covered o.covered w) (λ t m k.
          then_tidy (lowered_tidy o.op args (with_covered o.covered w) (λ e. args_more f args m (h e))) (λ u n j.
          as_tidy _ (covered no_covers (lowered f.world o.op f.place args (with_covered o.covered w))) (λ v r q. all_more _ r j)))

-- with the place of the result
abbrev setup_of : Lowered → Op → LlProgram → ℕ → Found → Found → Setup
setup_of l o p size first last = record { program = p; size = size; first = first; last = last; world = l.world; place = place_of l o.result }

is_void : (t : LlType) → same_type t type.Void ≡ true → t ≡ type.Void
is_void type.Void e = refl
is_void type.Signed e = absurd (cc)
is_void type.Char e = absurd (cc)
is_void type.Bool e = absurd (cc)
is_void type.Fn e = absurd (cc)
is_void (type.Ptr n) e = absurd (cc)

module _ (l : Lowered) where
  typed_in : (v : ℕ) (names : List ℕ) → type_at l v ≢ type.Void → among v names ≡ true → among v (typed l names) ≡ true
  typed_in v [] there h = absurd (cc)
  typed_in v (u ∷ names) there h = on (λ k. typed_in v names there k) (same_type (type_at l u) type.Void) (u == v) refl refl h
    where
      on : (among v names ≡ true → among v (typed l names) ≡ true) → (b d : Bool) → same_type (type_at l u) type.Void ≡ b → (u == v) ≡ d → (d || among v names) ≡ true → among v (if b then typed l names else u ∷ typed l names) ≡ true
      on go true true e q h = absurd (there (subst (λ (n : ℕ). type_at l n ≡ type.Void) (let p : u ≡ v = grind (arith, nat_tests, q) in p) (is_void (type_at l u) e)))
      on go true false e q h = go h
      on go false true e q h = ap (λ b. b || among v (typed l names)) q
      on go false false e q h = right_in v (u ∷ []) (typed l names) (go h)

  -- operands among these variables that have types are there
  all_there : (f : Setup) (names args : List ℕ) → f.world ≡ l.world → AllIn args names → HaveTypes l args → AreThere f (operands_of l args) (typed l names)
  all_there f names [] same inside have = tt
  all_there f names (v ∷ args) same inside have = (
    record { inside = variable v (typed l names) (typed_in v names have.0 (inside v (here_in v args))); typed = subst (λ (world : World). type_of world.around (operand_of l v) ≢ type.Void) (sym same) have.0 },
    all_there f names args same (λ u j. inside u (right_in u (v ∷ []) args j)) have.1,
  )

  are_there : (f : Setup) (names args : List ℕ) → f.world ≡ l.world → AllIn args names → AreTyped l args → is_never (operands_of l args) ≡ false → AreThere f (operands_of l args) (typed l names)
  are_there f names args same inside have e = all_there f names args same inside (have e)

-- a program without graphs
abbrev bare : LlProgram
bare = record { stage = stage.Raw; structs = []; statics = []; graphs = []; entry = 0 }

bare_gives : (world : World) (first last : Found) → CallsGive bare world first last
bare_gives world first last = record { helpers = λ h g found a b graph e. absurd (cc); smalls = λ s g found a graph e. absurd (cc); functions = λ n t graph e. absurd (cc) }

bare_stands : (l : Lowered) (o : Op) (first last : Found) → Stands (setup_of l o bare (suc o.result) first last)
bare_stands l o first last = record { calls = bare_gives l.world first last; under = λ h. omega arith }

pub read_so : (l : Lowered) (names : List ℕ) (o : Op) (w : Writing) → AllIn o.args names → AreTyped l o.args
    → Tidy (setup_of l o bare (suc o.result) w.found (op_of l o w).found) (typed l names) (taken (suits l.world o.op (place_of l o.result) (operands_of l o.args)) (setup_of l o bare (suc o.result) w.found (op_of l o w).found)) w (op_of l o w)
read_so l names o w inside have = op_tidy (bare_stands l o w.found (op_of l o w).found) l o w refl refl (are_there l (setup_of l o bare (suc o.result) w.found (op_of l o w).found) names o.args refl inside have)

pub operations_read : OperationsRead
operations_read l names o w written e inside have =
    let t : Tidy (setup_of l o bare (suc o.result) w.found (op_of l o w).found) (typed l names) (taken (suits l.world o.op (place_of l o.result) (operands_of l o.args)) (setup_of l o bare (suc o.result) w.found (op_of l o w).found)) w (op_of l o w) = read_so l names o w inside have in
    subst (λ ops. ReadIn ops (typed l names)) (append_cancel_left w.body.ops t.ops written (sym t.written ∙ e)) t.reads

-- where the place has a type it is among what is set
target_among : (s : List ℕ) (t : LlType) (v : ℕ) → t ≢ type.Void → AreSet (target t v) s → among v s ≡ true
target_among s type.Void v there h = absurd (there refl)
target_among s type.Signed v there h = among_set v s h.0
target_among s type.Char v there h = among_set v s h.0
target_among s type.Bool v there h = among_set v s h.0
target_among s type.Fn v there h = among_set v s h.0
target_among s (type.Ptr n) v there h = among_set v s h.0

pub operations_read_inside : OperationsReadInside
operations_read_inside l names o w written e inside have so = record {
  reads = operations_read l names o w written e inside have;
  sets = λ there.
      let t : Tidy (setup_of l o bare (suc o.result) w.found (op_of l o w).found) (typed l names) (taken (suits l.world o.op (place_of l o.result) (operands_of l o.args)) (setup_of l o bare (suc o.result) w.found (op_of l o w).found)) w (op_of l o w) = read_so l names o w inside have in
      let all : AreSet (taken true (setup_of l o bare (suc o.result) w.found (op_of l o w).found)) (through t.ops (typed l names)) = subst (λ b. AreSet (taken b (setup_of l o bare (suc o.result) w.found (op_of l o w).found)) (through t.ops (typed l names))) (so there) t.sets in
      subst (λ ops. among o.result (through ops (typed l names)) ≡ true) (append_cancel_left w.body.ops t.ops written (sym t.written ∙ e)) (target_among (through t.ops (typed l names)) (type_at l o.result) o.result there all);
}

pub operations_fit : OperationsFit
operations_fit l o w written p size first last e have calls under enough g h =
    let c : Stands (setup_of l o p size first last) = record { calls = calls; under = under } in
    let t : Tidy (setup_of l o p size first last) (typed l o.args) (taken (suits l.world o.op (place_of l o.result) (operands_of l o.args)) (setup_of l o p size first last)) w (op_of l o w) = op_tidy c l o w refl refl (are_there l (setup_of l o p size first last) o.args o.args refl (λ v k. k) have) in
    subst (λ ops. AllFit p size ops) (append_cancel_left w.body.ops t.ops written (sym t.written ∙ e)) (t.fits g h enough)
