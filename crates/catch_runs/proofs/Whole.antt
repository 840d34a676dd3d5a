-- Programs whose parts are done.
use Rattle.std.proofs.Common.{◌≡◌, ◌≢◌, ◌<◌, ◌≤◌, ◌^◌, ℕ, zero, suc, ◌+◌, ◌-◌, Bool, true, false, List, [], ◌∷◌, ◌++◌, length, pos, Option, Some, refl, sym, ap, ◌∙◌, subst, arith}
use Rattle.std.specs.Prelude.{slice_get, if◌then◌else◌, replicate}
use Rattle.std.proofs.lemmas.List.{length-append, length-replicate}
use Rattle.ann_element.specs.declared.element.Element.{Element}
use Rattle.csub_tree.specs.declared.tree.COperand.TheVariants.{Const}
use Rattle.csub_tree.specs.declared.tree.CConst.TheVariants as constant
use Rattle.csub_tree.specs.State.{Value, Unset}
use Rattle.csub_tree.specs.Statement.{read}
use Rattle.ll_code.specs.declared.program.LlType.{LlType}
use Rattle.ll_code.specs.declared.program.LlType.TheVariants as type
use Rattle.ll_code.specs.declared.program.LlOp.{LlOp}
use Rattle.ll_code.specs.declared.program.LlOp.TheVariants.{Step}
use Rattle.ll_code.specs.declared.program.LlBlock.{LlBlock}
use Rattle.ll_code.specs.declared.program.LlGraph.{LlGraph}
use Rattle.ll_code.specs.declared.program.LlProgram.{LlProgram}
use Rattle.class_desc.specs.Tables.{Tables}
use Rattle.flow_graph.specs.declared.graph.Block.{Block}
use Rattle.flow_graph.specs.declared.graph.Graph.{Graph}
use Rattle.flow_graph.specs.declared.graph.Graphs.{Graphs}
use Rattle.flow_meaning.specs.Machine.{block_in, taken}
use Rattle.rpy_tree.specs.Value.{Value as Meant}
use Rattle.rpy_meaning.specs.Tree.{Function}
use Rattle.rtyper_layout.specs.Types.{type_of, type_seen}
use Rattle.rtyper_data.specs.Finding.{same_type}
use Rattle.rtyper_data.specs.Seen.{writing}
use Rattle.rtyper_class.specs.Seen.{World}
use Rattle.rtyper_program.specs.Blocks.{block_of, dead_block}
use Rattle.rtyper_program.specs.Graphs.{block_at, blocks_from, blocks_of, graph_of, elements_in, lowered_graph, nothing_behind, paid, params_of, typed_from, variables}
use Rattle.rtyper_program.specs.Handlers.{Work, work}
use Rattle.rtyper_program.specs.Links.{typed}
use Rattle.rtyper_program.specs.Program.{IsLaid}
use Rattle.rtyper_program.specs.Seen.{Known, Lowered, is_block_reached, is_reached, element_at}
use Rattle.growth_laws.specs.Growing.{Grows}
use Rattle.growth_laws.proofs.Data.{then_grows}
use Rattle.growth_laws.proofs.Fronts.{in_front}
use Rattle.object_laws.specs.Done.{HasLayout}
use Rattle.object_laws.specs.Ghost.{Ghost}
use Rattle.object_laws.specs.Known.{Known as Seen}
use Rattle.object_laws.specs.Values.{Holds, AllHold, End, Next}
use Rattle.program_asks.specs.Standing.{first_in, last_in, numbers_in, world_in}
use Rattle.rtyped_laws.specs.Programs.{layout_for}
use Rattle.rtyped_laws.proofs.Programs.{layouts_are_had_by_programs}
use Rattle.run_laws.proofs.Whole.{runs_are_followed}
use Rattle.run_laws.specs.Points.{Setting, BlockAt, Stand}
use Rattle.run_laws.specs.Does.{Does, Passed}
use Rattle.run_laws.specs.States.{BeginsAs, IsLowered}
use Rattle.block_laws.specs.Links.{HasBlocks, graph_in, types_in}
use Rattle.rtyper_data.specs.declared.found.Found.{Found}
use Rattle.catch_laws.specs.Caught.{IsTold}
use Rattle.catch_laws.specs.Exits.{quiet_by}
use Rattle.catch_laws.specs.Handlers.{AreInGraph, IsPlaced}
use Rattle.rtyped_runs.specs.Parts.{TakesParameters}
use Rattle.rtyped_runs.specs.Programs.{setting_of}
use Rattle.catch_runs.specs.Parts.{GraphIsDoneSo}
use Rattle.catch_runs.specs.Programs.{CatchingProgramsAreLowered, CatchingProgramsRunOn, IsDoneSo}
use Rattle.catch_runs.proofs.Blocks.{BlockWrittenSo}
use Rattle.rtyped_runs.proofs.Functions.{StandsAt, function_stands}
use Rattle.rtyped_runs.proofs.Graphs.{Stands, block_inputs, stand}
use Rattle.catch_runs.proofs.Graphs.{StandsWell, extra_stands, stand_well, written_at}
use Rattle.rtyped_runs.proofs.Taking.{params_typed, takes}

not_void : (t : LlType) → (t ≡ type.Void → ⊥) → same_type t type.Void ≡ false
not_void type.Signed there = refl
not_void type.Void there = absurd (there refl)
not_void type.Char there = refl
not_void type.Bool there = refl
not_void type.Fn there = refl
not_void (type.Ptr n) there = refl

read_front : (xs more : List Value) (j : ℕ) (x : Value) → slice_get xs j ≡ Some x → read (xs ++ more) j ≡ x
read_front [] more j x h = absurd (cc)
read_front (y ∷ xs) more zero x h = (let q : Some y ≡ Some x = h in cc)
read_front (y ∷ xs) more (suc j) x h = read_front xs more j x h

module _ (known : Known) (classes : Tables) (p : LlProgram) (r : IsLaid known classes p) (seen : Seen) (graphs : Graphs) (arguments : List (List ℕ)) (few : length p.graphs < 2 ^ 64) (has : HasLayout p (layout_for known classes))
    (done : IsDoneSo known (world_in known classes (layout_for known classes) p r) seen (numbers_in known classes (layout_for known classes) p r) (first_in known classes (layout_for known classes) p r) (last_in known classes (layout_for known classes) p r) graphs p arguments) where
  abbrev world : World
  world = world_in known classes (layout_for known classes) p r

  abbrev s : Setting
  s = setting_of known world seen graphs p arguments

  -- ---- one graph

  module _ (n : ℕ) (graph : Graph) (of : slice_get known.graphs n ≡ Some graph) (reached : is_reached known.annotation graph.function ≡ true) where
    abbrev l : Lowered
    l = lowered_graph known world n graph

    it : StandsAt known world p.graphs (first_in known classes (layout_for known classes) p r) (last_in known classes (layout_for known classes) p r) world.around.numbers n n graph
    it = function_stands known classes (layout_for known classes) p r n graph few of reached

    parts : GraphIsDoneSo s (numbers_in known classes (layout_for known classes) p r) l (first_in known classes (layout_for known classes) p r) (last_in known classes (layout_for known classes) p r)
    parts = done.parts n graph of reached

    number_is : seen.graph n ≡ Some it.number
    number_is = done.knows.numbers n graph of reached ∙ it.numbered

    abbrev start : List LlBlock × Work
    start = ([], work (writing it.found (record { types = variables known world n; ops = [] })) (nothing_behind graph.blocks))

    abbrev result : List LlBlock × Work
    result = blocks_from l 0 graph.blocks start

    abbrev low : LlGraph
    low = (graph_of known world n graph it.found).0

    low_blocks : low.blocks ≡ result.0 ++ result.1.extra.blocks
    unfolding graph_of blocks_of
    low_blocks = refl

    low_types : low.types ≡ result.1.writing.body.types
    unfolding graph_of blocks_of
    low_types = refl

    low_params : low.params ≡ params_of world.around graph.function
    unfolding graph_of
    low_params = refl

    late : Grows result.1.writing.found (last_in known classes (layout_for known classes) p r)
    unfolding graph_of blocks_of
    late = it.late

    size_is : s.size n ≡ length result.1.writing.body.types
    size_is = ap (λ o. length (types_in (graph_in p o))) number_is ∙ ap (λ o. length (types_in o)) it.there ∙ ap (λ (ts : List LlType). length ts) low_types

    flow_graph : slice_get graphs.graphs n ≡ Some graph
    flow_graph = ap (λ gs. slice_get gs n) done.same ∙ of

    block_there : (m : ℕ) (b : LlBlock) → slice_get result.0 m ≡ Some b → slice_get low.blocks m ≡ Some b
    block_there m b h = ap (λ bs. slice_get bs m) low_blocks ∙ in_front result.0 result.1.extra.blocks m b h

    has_blocks : HasBlocks s l
    has_blocks m b h reached_block later =
        let z : 0 + m ≡ m = omega arith in
        let st : Stands l m b start result = subst (λ (k : ℕ). Stands l k b start result) z (stand l 0 graph.blocks start m b refl refl h) in
        record {
          low = (block_at l m b st.w).0;
          at = record {
            flow = ap (λ o. block_in o m) flow_graph ∙ h;
            number = it.number;
            is = number_is;
            graph = low;
            stands = it.there;
            block = block_there m (block_at l m b st.w).0 st.there;
            reached = reached_block;
            later = later;
          };
          inputs = ap (λ (c : Bool). (if c then block_of l b (paid m st.w) else (dead_block, st.w)).0.inputs) reached_block ∙ block_inputs l b (paid m st.w);
        }

    told : (found : Found) → Grows (first_in known classes (layout_for known classes) p r) found → Grows found (last_in known classes (layout_for known classes) p r) → IsTold s (quiet_by found)
    told = done.told

    all_extra : AreInGraph low result.1.extra
    all_extra = extra_stands l graph.blocks start low refl refl low_blocks (done.few it.number low it.there)

    well : (m : ℕ) (b : Block) → slice_get graph.blocks m ≡ Some b → StandsWell l seen graphs p arguments (numbers_in known classes (layout_for known classes) p r) (first_in known classes (layout_for known classes) p r) (last_in known classes (layout_for known classes) p r) has parts.types flow_graph has_blocks told m b start result
    well m b h =
        let z : 0 + m ≡ m = omega arith in
        subst (λ (k : ℕ). StandsWell l seen graphs p arguments (numbers_in known classes (layout_for known classes) p r) (first_in known classes (layout_for known classes) p r) (last_in known classes (layout_for known classes) p r) has parts.types flow_graph has_blocks told k b start result) z
        (stand_well l seen graphs p arguments (numbers_in known classes (layout_for known classes) p r) (first_in known classes (layout_for known classes) p r) (last_in known classes (layout_for known classes) p r) has parts.types flow_graph has_blocks told
        0 graph.blocks start m b refl refl (λ j c k reached_block. parts.blocks j c k (ap (is_block_reached known.annotation n) (let z : j ≡ 0 + j = omega arith in z) ∙ reached_block)) it.early late (omega arith) h)

    module _ (m : ℕ) (b : Block) (h : slice_get graph.blocks m ≡ Some b) (reached_block : is_block_reached known.annotation n m ≡ true) where
      abbrev w : Work
      w = (well m b h).stands.w

      abbrev Written : Type 0
      Written = BlockWrittenSo l seen graphs p arguments (numbers_in known classes (layout_for known classes) p r) (first_in known classes (layout_for known classes) p r) (last_in known classes (layout_for known classes) p r) has parts.types flow_graph has_blocks told b (paid m w)

      at_is : block_at l m b w ≡ block_of l b (paid m w)
      at_is = ap (λ (c : Bool). if c then block_of l b (paid m w) else (dead_block, w)) reached_block

      written : Written
      written = written_at l seen graphs p arguments (numbers_in known classes (layout_for known classes) p r) (first_in known classes (layout_for known classes) p r) (last_in known classes (layout_for known classes) p r) has parts.types flow_graph has_blocks told
          m b w (λ reached_here. parts.blocks m b h reached_here) reached_block (then_grows it.early (well m b h).stands.early) (then_grows (well m b h).stands.late late) (well m b h).enough

      room : length (paid m w).writing.body.types + length written.new ≤ s.size n
      room =
          let most = (well m b h).most in
          let there : length (block_at l m b w).1.writing.body.types ≡ length (block_of l b (paid m w)).1.writing.body.types = ap (λ (made : LlBlock × Work). length made.1.writing.body.types) at_is in
          let count : length (block_of l b (paid m w)).1.writing.body.types ≡ length (paid m w).writing.body.types + length written.new = ap (λ (ts : List LlType). length ts) written.added ∙ length-append (paid m w).writing.body.types written.new in
          omega (arith, most, there, count, size_is)

      placed : IsPlaced s l (block_of l b (paid m w)).1
      placed = record {
        number = it.number;
        is = number_is;
        graph = low;
        stands = it.there;
        extra = subst (λ (made : LlBlock × Work). AreInGraph low made.1.extra) at_is ((well m b h).extra low all_extra);
        room = (let count : length (block_of l b (paid m w)).1.writing.body.types ≡ length (paid m w).writing.body.types + length written.new = ap (λ (ts : List LlType). length ts) written.added ∙ length-append (paid m w).writing.body.types written.new in let k = room in omega (arith, k, count));
      }

      does_it : Does s n b.inputs b.ops b.exit written.ops written.end
      does_it = written.does placed

      block_is : slice_get low.blocks m ≡ Some (record { inputs = typed l b.inputs; ops = (paid m w).writing.body.ops ++ written.ops; exit = written.end })
      block_is = block_there m (block_at l m b w).0 (well m b h).stands.there ∙ ap Some (ap (λ (made : LlBlock × Work). made.0) at_is ∙ written.is)

    -- a block behind the first one does not pay
    no_pay : (m : ℕ) (w : Work) → m ≢ 0 → w.writing.body.ops ≡ [] → (paid m w).writing.body.ops ≡ []
    no_pay zero w later h = absurd (later refl)
    no_pay (suc m) w later h = h

    first_pays : (w : Work) → w.writing.body.ops ≡ [] → (paid 0 w).writing.body.ops ≡ Step (Const (constant.Word (pos 1))) ∷ []
    first_pays w h = ap (λ (ops : List LlOp). ops ++ Step (Const (constant.Word (pos 1))) ∷ []) h

    later_does : (m : ℕ) (b : Block) (made : LlBlock) → slice_get graph.blocks m ≡ Some b → is_block_reached known.annotation n m ≡ true → m ≢ 0 → slice_get low.blocks m ≡ Some made → Does s n b.inputs b.ops b.exit made.ops made.exit
    later_does m b made h reached_block later is =
        let one = written m b h reached_block in
        let none : (paid m (w m b h reached_block)).writing.body.ops ≡ [] = no_pay m (w m b h reached_block) later (well m b h).stands.reset in
        let same : Some (record { inputs = typed l b.inputs; ops = one.ops; exit = one.end }) ≡ Some made = sym (block_is m b h reached_block ∙ ap (λ (ops : List LlOp). Some (record { inputs = typed l b.inputs; ops = ops ++ one.ops; exit = one.end })) none) ∙ is in
        let q : record { inputs = typed l b.inputs; ops = one.ops; exit = one.end } ≡ made = cc in
        subst (λ (x : LlBlock). Does s n b.inputs b.ops b.exit x.ops x.exit) q (does_it m b h reached_block)

    -- ---- what a function takes

    module _ (function : Function) (params : List Element) (of_params : slice_get world.around.params n ≡ Some params) where
      abbrev first_block : Block
      first_block = parts.some_block.0

      first_is : slice_get graph.blocks 0 ≡ Some first_block
      first_is = parts.some_block.1

      taking : TakesParameters l params first_block
      taking = parts.params params first_block of_params first_is

      abbrev first_written : BlockWrittenSo l seen graphs p arguments (numbers_in known classes (layout_for known classes) p r) (first_in known classes (layout_for known classes) p r) (last_in known classes (layout_for known classes) p r) has parts.types flow_graph has_blocks told first_block (paid 0 (w 0 first_block first_is parts.begins))
      first_written = written 0 first_block first_is parts.begins

      all_typed : {g : Ghost} (ps : List Element) (xs : List Value) (all : List Meant) (i : ℕ) → ((j : ℕ) (e : Element) → slice_get ps j ≡ Some e → s.element n (i + j) ≡ Some e) → AllHold world.around.layout seen g ps xs all → (j : ℕ) (e : Element) → slice_get ps j ≡ Some e → same_type (type_of world.around.layout e) type.Void ≡ false
      all_typed ps xs all i knows End j e h = absurd (cc)
      all_typed {g = g} ps xs all i knows (Next {part = part} {x = x} {v = v} held rest) zero e h =
          let same : part ≡ e = (let q : Some part ≡ Some e = h in cc) in
          let there : element_at known.annotation n (i + 0) ≡ Some part = knows 0 part refl in
          let typed = parts.types.typed g (i + 0) x v (subst (λ (d : Option Element). Holds world.around.layout seen g d x v) (sym there) held) in
          subst (λ (d : Element). same_type (type_of world.around.layout d) type.Void ≡ false) same (not_void (type_of world.around.layout part) (λ q. typed (ap (type_seen world.around.layout) there ∙ q)))
      all_typed ps xs all i knows (Next {parts = parts_left} {xs = ys} {vs = vs} held rest) (suc j) e h = all_typed parts_left ys vs (i + 1) (λ k d m. ap (s.element n) (let z : i + 1 + k ≡ i + suc k = omega arith in z) ∙ knows (suc k) d m) rest j e h

      as_many : {g : Ghost} {ps : List Element} {xs : List Value} {all : List Meant} → AllHold world.around.layout seen g ps xs all → length xs ≡ length ps
      as_many End = refl
      as_many (Next held rest) = ap suc (as_many rest)

      first_same : (b : Block) → block_in (slice_get graphs.graphs n) 0 ≡ Some b → first_block ≡ b
      first_same b h = (let q : Some first_block ≡ Some b = sym first_is ∙ sym (ap (λ o. block_in o 0) flow_graph) ∙ h in cc)

      knows_params : (j : ℕ) (e : Element) → slice_get params j ≡ Some e → element_at known.annotation n (0 + j) ≡ Some e
      knows_params j e h = ap (element_at known.annotation n) (let z : 0 + j ≡ j = omega arith in z) ∙ taking.known j e h

      taken_there : (args : List Meant) (g : Ghost) (xs : List Value) (passed : Passed s function params args g xs) → Stand s g n (taken first_block.inputs passed.all) (xs ++ replicate (length low.types - length low.params) Unset)
      taken_there args g xs passed = takes s n g (xs ++ replicate (length low.types - length low.params) Unset) first_block.inputs params xs passed.all
          (λ j v h. taking.counted j v h ∙ (let z : j ≡ 0 + j = omega arith in z)) knows_params
          (λ j x h. ap (read (xs ++ replicate (length low.types - length low.params) Unset)) (let z : 0 + j ≡ j = omega arith in z) ∙ read_front xs (replicate (length low.types - length low.params) Unset) j x h)
          taking.others passed.hold

      params_count : {g : Ghost} (xs : List Value) (all : List Meant) → AllHold world.around.layout seen g params xs all → length low.params ≡ length params
      params_count xs all held =
          ap (λ (ps : List ℕ). length ps) low_params
          ∙ ap (λ f. length (params_of world.around f)) parts.function
          ∙ ap (λ o. length (typed_from world.around.layout 0 (elements_in o))) of_params
          ∙ params_typed world.around.layout 0 params (all_typed params xs all 0 knows_params held)

      room_there : (xs : List Value) (g : Ghost) (all : List Meant) → AllHold world.around.layout seen g params xs all → length (xs ++ replicate (length low.types - length low.params) Unset) ≡ s.size n
      room_there xs g all held =
          let a : length (xs ++ replicate (length low.types - length low.params) Unset) ≡ length xs + length (replicate (length low.types - length low.params) Unset) = length-append xs (replicate (length low.types - length low.params) Unset) in
          let b : length (replicate (length low.types - length low.params) Unset) ≡ length low.types - length low.params = length-replicate (length low.types - length low.params) Unset in
          let c = params_count xs all held in
          let d = as_many held in
          let e : length low.types ≡ length result.1.writing.body.types = ap (λ (ts : List LlType). length ts) low_types in
          let some = taking.some in
          let enough = (well 0 first_block first_is).enough in
          let full = room 0 first_block first_is parts.begins in
          omega (arith, a, b, c, d, e, size_is, some, enough, full)

      begins : BeginsAs s n function params
      begins = record {
        number = it.number;
        is = number_is;
        graph = low;
        stands = it.there;
        first = record { inputs = typed l first_block.inputs; ops = (paid 0 (w 0 first_block first_is parts.begins)).writing.body.ops ++ first_written.ops; exit = first_written.end };
        block = block_is 0 first_block first_is parts.begins;
        ops = first_written.ops;
        pays = ap (λ (ops : List LlOp). ops ++ first_written.ops) (first_pays (w 0 first_block first_is parts.begins) (well 0 first_block first_is).stands.reset);
        does = λ b h. subst (λ (c : Block). Does s n c.inputs c.ops c.exit first_written.ops first_written.end) (first_same b h) (does_it 0 first_block first_is parts.begins);
        takes = λ b args g xs h passed. subst (λ (c : Block). Stand s g n (taken c.inputs passed.all) (xs ++ replicate (length low.types - length low.params) Unset)) (first_same b h) (taken_there args g xs passed);
        room = room_there;
      }

  lowered_blocks : (f n : ℕ) (b : Block) (made : LlBlock) → BlockAt s f n b made → Does s f b.inputs b.ops b.exit made.ops made.exit
  lowered_blocks f n b made at =
      let found = done.knows.only f at.number at.is in
      let graph = found.0 in
      let of = found.1.0 in
      let reached = found.1.1 in
      let block : slice_get graph.blocks n ≡ Some b = sym (ap (λ o. block_in o n) (flow_graph f graph of reached)) ∙ at.flow in
      let number : at.number ≡ (it f graph of reached).number = (let a = at.is in let c = number_is f graph of reached in let q : Some at.number ≡ Some (it f graph of reached).number = sym a ∙ c in cc) in
      let same : Some at.graph ≡ Some (low f graph of reached) = sym at.stands ∙ ap (slice_get p.graphs) number ∙ (it f graph of reached).there in
      let is : slice_get (low f graph of reached).blocks n ≡ Some made = (let q : at.graph ≡ low f graph of reached = cc in ap (λ (g : LlGraph). slice_get g.blocks n) (sym q) ∙ at.block) in
      later_does f graph of reached n b made block at.reached at.later is

  lowered : IsLowered s
  lowered = record {
    blocks = lowered_blocks;
    functions = λ f number function params is of_function of_params. (let found = done.knows.only f number is in begins f found.0 found.1.0 found.1.1 function params of_params);
  }

pub catching_programs_are_lowered : CatchingProgramsAreLowered
catching_programs_are_lowered known classes p r seen graphs arguments few structs done = lowered known classes p r seen graphs arguments few (layouts_are_had_by_programs known classes p r structs) done

pub catching_programs_run_on : CatchingProgramsRunOn
catching_programs_run_on known classes p r seen graphs arguments few structs done = runs_are_followed (setting_of known (world_in known classes (layout_for known classes) p r) seen graphs p arguments) (catching_programs_are_lowered known classes p r seen graphs arguments few structs done)
