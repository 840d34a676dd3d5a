-- A dict without entries is made.
use Rattle.std.proofs.Common.{◌≡◌, ◌<◌, ◌≤◌, ℕ, ◌+◌, ◌-◌, Bool, true, false, List, [], ◌∷◌, ◌++◌, length, Option, Some, None, pos, refl, sym, ap, ◌∙◌, subst, arith, append_assoc, length-append}
use Rattle.std.specs.Prelude.{nat_lt, slice_get, if◌then◌else◌}
use Rattle.std.proofs.lemmas.Bool.Decides.{nat_tests}
use Rattle.std.proofs.lemmas.List.{append-nil, length-set}
use Rattle.csub_tree.specs.State.{Value, Unset, Word, Null, Ptr, Block, Core}
use Rattle.csub_tree.specs.Layout.{shape_at, shape_over}
use Rattle.csub_tree.specs.declared.tree.COperand.TheVariants.{Var}
use Rattle.rpy_tree.specs.Value.{Value as Meant, Ref, Mapped as MappedObject}
use Rattle.rpy_meaning.specs.declared.row.Covers.{Covers}
use Rattle.rpy_meaning.specs.declared.row.RowOp.TheVariants as row
use Rattle.rpy_meaning.specs.Operations.{op as meant_op}
use Rattle.rpy_meaning.specs.World.{World, Answer, Gives, Lacks}
use Rattle.ll_code.specs.State.{Frame, Calling, State, At}
use Rattle.ll_code.specs.Machine.{shapes_of}
use Rattle.ll_code.specs.declared.program.LlType.TheVariants as type
use Rattle.ll_code.specs.declared.program.LlOp.{LlOp}
use Rattle.ll_code.specs.declared.program.LlOp.TheVariants as op
use Rattle.ll_code.specs.declared.program.LlExit.{LlExit}
use Rattle.ll_code.specs.declared.program.LlProgram.{LlProgram}
use Rattle.ll_build.specs.declared.needs.Numbers.{Numbers}
use Rattle.ll_leads.specs.Path.{Leads}
use Rattle.ll_leads.proofs.Joined.{leads_then, leads_more}
use Rattle.ll_leads.proofs.Ways.{enter, lacks, many, pays, rests}
use Rattle.rtyper_layout.specs.declared.dicts.Mapping.{Mapping}
use Rattle.rtyper_layout.specs.declared.layout.Layout.{Layout}
use Rattle.rtyper_layout.specs.Kinds.{kind_seen}
use Rattle.rtyper_layout.specs.Layout.{mapping_at}
use Rattle.rtyper_layout.specs.Types.{type_seen}
use Rattle.rtyper_data.specs.declared.small.Keyed.TheVariants as keyed
use Rattle.rtyper_data.specs.declared.small.Small.{Small}
use Rattle.rtyper_data.specs.declared.small.Small.TheVariants as small
use Rattle.rtyper_data.specs.Converting.{by_small}
use Rattle.rtyper_data.specs.Finding.{small_number}
use Rattle.rtyper_data.specs.Numbers.{word as word_operand}
use Rattle.rtyper_data.specs.Seen.{Around, Place, Writing, writing, push}
use Rattle.rtyper_dict.specs.Graphs.{changing, dict_graph}
use Rattle.rtyper_dict.specs.Growing.{make, make_given}
use Rattle.rtyper_dict.specs.Lowering.{display, display_to, lower_dict_op}
use Rattle.rtyper_dict.specs.Operands.{of_dict}
use Rattle.rtyper_dict.specs.Parts.{dict_at, dict_or, shape_of}
use Rattle.lower_laws.specs.Asked.{Make}
use Rattle.lower_laws.specs.Values.{AllBelow}
use Rattle.lower_laws.proofs.Doing.{after}
use Rattle.lower_laws.proofs.Single.{sets}
use Rattle.list_laws.proofs.Making.{makes_plain, writes_newest}
use Rattle.object_laws.specs.Dicts.{dict_block}
use Rattle.object_laws.specs.Done.{Any, Follows, HasLayout, references}
use Rattle.object_laws.specs.Ghost.{Ghost, DictOf}
use Rattle.object_laws.specs.Known.{Known}
use Rattle.object_laws.specs.Represents.{Represents}
use Rattle.object_laws.specs.Values.{Given, Holds, Mapped}
use Rattle.object_laws.proofs.Calling.{Returns, back, calls_back}
use Rattle.object_laws.proofs.Made.{get_first, with_dict, dict_grown, dict_made}
use Rattle.object_laws.proofs.Passing.{is_set_at, is_kept_at}
use Rattle.dict_op_laws.specs.Asked.{HasAll, HasKeyed}
use Rattle.dict_op_laws.specs.Dicts.{EmptyDictsAreMade, IsDone}
use Rattle.dict_op_laws.proofs.Lengths.{same_kind}

-- ---- the graph

module _ (p : LlProgram) (args : List (List ℕ)) (layout : Layout) (n f : ℕ) (d : Mapping) (mapping : mapping_at layout.mappings n ≡ Some d) (heads : shape_at (shapes_of p.structs) d.dict ≡ shape_over d.dict 4 None)
    (has : HasKeyed p layout (keyed.Make n) f) (core : Core) (waits : List Frame) where
  graph_is : slice_get p.graphs f ≡ Some (make (shape_of d))
  unfolding dict_graph changing dict_at
  graph_is = has.graph ∙ ap (λ o. Some (make (dict_or n o))) mapping

  made_dict : Returns p args 0 (Calling f [] waits core) (Ptr (length core.blocks)) waits (record core { blocks = core.blocks ++ Some (dict_block d.dict 0 0 Null Null) ∷ [] })
  unfolding make make_given shape_of
  made_dict = record {
    end = _;
    same = refl;
    leads = leads_more (0 + (0 + (0 + (0 + (0 + (0 + 0)))))) 0 (omega arith)
        (leads_then (enter graph_is refl)
        (leads_then (makes_plain 4 heads)
        (leads_then (writes_newest 4 core.blocks (record { kind = d.dict; fields = Unset ∷ Unset ∷ Unset ∷ Unset ∷ []; items = [] }) (Word (pos 0)) heads refl refl refl refl refl)
        (leads_then (writes_newest 4 core.blocks (record { kind = d.dict; fields = Word (pos 0) ∷ Unset ∷ Unset ∷ Unset ∷ []; items = [] }) (Word (pos 0)) heads refl refl refl refl refl)
        (leads_then (writes_newest 4 core.blocks (record { kind = d.dict; fields = Word (pos 0) ∷ Word (pos 0) ∷ Unset ∷ Unset ∷ []; items = [] }) Null heads refl refl refl refl refl)
        (leads_then (writes_newest 4 core.blocks (record { kind = d.dict; fields = Word (pos 0) ∷ Word (pos 0) ∷ Null ∷ Unset ∷ []; items = [] }) Null heads refl refl refl refl refl)
        (many 1 graph_is refl refl)))))));
  }

-- ---- a display

abbrev pays_one : LlOp
pays_one = op.Step (word_operand (pos 1))

too_few : (n : ℕ) → nat_lt n 1 ≡ true → n < 1
too_few n h = grind (arith, nat_tests, h)

enough_left : (n : ℕ) → nat_lt n 1 ≡ false → 1 ≤ n
enough_left n h = grind (arith, nat_tests, h)

abbrev begun_world : World → World
begun_world w = record w { heap = w.heap ++ MappedObject [] ∷ []; left = w.left - 1 }

module _ (known : Known) (around : Around) (place : Place) (w : Writing) (covers : Covers) (site n : ℕ) (d : Mapping) (dicts : of_dict (kind_seen place.element) ≡ true) (typed : type_seen around.layout place.element ≡ type.Ptr n) (mapping : mapping_at around.layout.mappings n ≡ Some d) where
  abbrev graph : Small
  graph = small.Keyed (keyed.Make n)

  abbrev number : ℕ
  number = (small_number graph w.found).0

  abbrev m : ℕ
  m = length w.body.types

  abbrev makes : LlOp
  makes = op.Call (Some m) number []

  abbrev puts : LlOp
  puts = op.Set place.variable (Var m)

  is_written : lower_dict_op around (row.Dict site) place [] w ≡ writing (small_number graph w.found).1 (record { types = w.body.types ++ type.Ptr n ∷ []; ops = ((w.body.ops ++ pays_one ∷ []) ++ makes ∷ []) ++ puts ∷ [] })
  unfolding lower_dict_op display by_small
  is_written = ap (λ t. display_to around place t (push pays_one w)) typed

  module _ (p : LlProgram) (raised : ℕ → Value) (arguments : List (List ℕ)) (rest : List LlOp) (e : LlExit) (frames : List Frame) (core : Core) (g : Ghost) (world : World)
      (structs : HasLayout p around.layout) (has : HasKeyed p around.layout (keyed.Make n) number)
      (stands : Represents around.layout known g world.heap world.left core.blocks core.statics) (left : world.left ≡ core.steps) (room : m < length core.vars) (inside : place.variable < m) where
    abbrev Here : State
    Here = At (pays_one ∷ makes ∷ puts ∷ rest) e frames core

    abbrev Done : Answer → Type 0
    Done answer = Follows 1 known around place p arguments Here rest e frames core g raised 1 m world answer

    lacking : world.left < 1 → Done Lacks
    lacking short = record { last = Here; leads = rests; ends = lacks p arguments (makes ∷ puts ∷ rest) e frames core (word_operand (pos 1)) 1 refl (omega (arith, short, left)); blocks = refl; holds = λ placed b h. h }

    abbrev head : ℕ
    head = length core.blocks

    abbrev blocks2 : List (Option Block)
    blocks2 = core.blocks ++ Some (dict_block d.dict 0 0 Null Null) ∷ []

    abbrev core1 : Core
    core1 = record core { at = core.at + 1; steps = world.left - 1 }

    abbrev core2 : Core
    core2 = back core1 (record core1 { blocks = blocks2 }) (Some m) (Ptr head)

    abbrev ghost : Ghost
    ghost = with_dict g n (length world.heap)

    represents : Represents around.layout known ghost (begun_world world).heap (world.left - 1) blocks2 core.statics
    represents = dict_made stands n (world.left - 1) d (structs.dicts_apart n d mapping).0 (omega arith) mapping

    held : Holds around.layout known ghost place.element (Ptr head) (Ref (length world.heap))
    held = Mapped n (length world.heap) d (sym (same_kind (kind_seen place.element)) ∙ dicts) refl typed mapping (get_first g.homes [] (record { sort = DictOf n; head = Ptr (length g.blocks) }) (length world.heap) (sym stands.homes) ∙ ap (λ k. Some (record { sort = DictOf n; head = Ptr k })) stands.made)

    long : length core2.vars ≡ length core.vars
    long = length-set core.vars m (Ptr head)

    calls : Leads p arguments 0 (At (makes ∷ puts ∷ rest) e frames core1) [] (At (puts ∷ rest) e frames core2)
    calls = calls_back 0 refl refl (made_dict p arguments around.layout n number d mapping (structs.dicts n d mapping).head has core1)

    paying : 1 ≤ world.left → Done (Gives (Ref (length world.heap)) (begun_world world))
    paying enough = record {
      end = after core2 place.variable (Ptr head);
      text = [];
      leads = leads_more (0 + (0 + 0)) 1 (omega arith) (leads_then (pays 1 (world.left - 1) refl (omega (arith, left, enough))) (leads_then calls (sets (Ptr head) (is_set_at core m (Ptr head) room) refl)));
      ghost = ghost;
      grown = dict_grown g n (length world.heap);
      stands = represents;
      holds = subst (λ x. Holds around.layout known ghost place.element x (Ref (length world.heap))) (sym (is_set_at core2 place.variable (Ptr head) (omega (arith, room, inside, long)))) held;
      few = (let l : length blocks2 ≡ length core.blocks + 1 = length-append core.blocks (Some (dict_block d.dict 0 0 Null Null) ∷ []) in omega (arith, l));
      memory = refl;
      others = λ k under other. is_kept_at core2 place.variable k (Ptr head) other ∙ is_kept_at core m k (Ptr head) (λ q. omega (arith, under, q));
      room = length-set core2.vars place.variable (Ptr head) ∙ long;
      function = refl;
      block = refl;
      out = sym (append-nil world.out);
    }

    begun : Done (if nat_lt world.left 1 then Lacks else Gives (Ref (length world.heap)) (begun_world world))
    begun = by (nat_lt world.left 1) refl
      where
        by : (c : Bool) → nat_lt world.left 1 ≡ c → Done (if c then Lacks else Gives (Ref (length world.heap)) (begun_world world))
        by true h = lacking (too_few world.left h)
        by false h = paying (enough_left world.left h)

  display_done : IsDone 1 known around (row.Dict site) covers (Make graph ∷ []) place [] w
  display_done = record {
    ops = pays_one ∷ makes ∷ puts ∷ [];
    new = type.Ptr n ∷ [];
    asked = ap (λ (r : Writing). r.found) is_written;
    written = ap (λ (r : Writing). r.body.ops) is_written ∙ append_assoc (w.body.ops ++ pays_one ∷ []) (makes ∷ []) (puts ∷ []) ∙ append_assoc w.body.ops (pays_one ∷ []) (makes ∷ puts ∷ []);
    types = ap (λ (r : Writing). r.body.types) is_written;
    follows = follows;
  }
    where
      follows : (p : LlProgram) (numbers : Numbers) (raised : ℕ → Value) (arguments : List (List ℕ)) (rest : List LlOp) (e : LlExit) (frames : List Frame) (core : Core) (g : Ghost) (world : World) (vs : List Meant)
          → HasLayout p around.layout → HasAll p around.layout numbers raised core (Make graph ∷ []) w.found → Represents around.layout known g world.heap world.left core.blocks core.statics → world.left ≡ core.steps → m + 1 ≤ length core.vars → place.variable < m → AllBelow m [] → Given known around g core [] vs → Any world vs
          → Follows 1 known around place p arguments (At (pays_one ∷ makes ∷ puts ∷ rest) e frames core) rest e frames core g raised (references world.heap vs) m world (meant_op known.program covers (row.Dict site) vs world)
      follows p numbers raised arguments rest e frames core g world [] structs has stands left room inside below given good =
          begun p raised arguments rest e frames core g world structs has.0 stands left (omega (arith, room)) inside
      follows p numbers raised arguments rest e frames core g world (v ∷ vs) structs has stands left room inside below given good = absurd given

pub empty_dicts_are_made : EmptyDictsAreMade
empty_dicts_are_made known around place w covers site n d dicts typed mapping = display_done known around place w covers site n d dicts typed mapping
