-- A list of so many items is made.
use Rattle.std.proofs.Common.{◌≡◌, ◌<◌, ◌≤◌, ℕ, suc, ◌+◌, ◌-◌, Bool, true, false, List, [], ◌∷◌, ◌++◌, length, Option, Some, None, pos, refl, sym, ap, ◌∙◌, subst, arith, append_assoc, length-append}
use Rattle.std.specs.Prelude.{nat_lt, if◌then◌else◌, slice_set, slice_index_or, replicate}
use Rattle.std.proofs.lemmas.Bool.Decides.{nat_tests}
use Rattle.std.proofs.lemmas.List.{append-nil, length-set}
use Rattle.ann_element.specs.declared.element.Element.{Element}
use Rattle.csub_tree.specs.State.{Value, Unset, Word, Ptr, Block, Core}
use Rattle.csub_tree.specs.Layout.{shape_at, shape_over}
use Rattle.csub_tree.specs.Operation.{is_unset}
use Rattle.csub_tree.specs.Statement.{read, operand}
use Rattle.csub_tree.specs.declared.tree.COperand.{COperand}
use Rattle.csub_tree.specs.declared.tree.COperand.TheVariants.{Var}
use Rattle.rpy_tree.specs.Value.{Value as Meant, Ref, Listed as ListedObject}
use Rattle.rpy_meaning.specs.declared.row.Covers.{Covers}
use Rattle.rpy_meaning.specs.declared.row.RowOp.TheVariants as row
use Rattle.rpy_meaning.specs.Operations.{op as meant_op}
use Rattle.rpy_meaning.specs.World.{World, Answer, Gives, Lacks}
use Rattle.ll_code.specs.State.{Frame, State, At}
use Rattle.ll_code.specs.Machine.{shapes_of}
use Rattle.ll_code.specs.declared.program.LlType.{LlType}
use Rattle.ll_code.specs.declared.program.LlType.TheVariants as type
use Rattle.ll_code.specs.declared.program.LlOp.{LlOp}
use Rattle.ll_code.specs.declared.program.LlOp.TheVariants as op
use Rattle.ll_code.specs.declared.program.LlExit.{LlExit}
use Rattle.ll_code.specs.declared.program.LlProgram.{LlProgram}
use Rattle.ll_leads.specs.Memory.{forgotten}
use Rattle.ll_leads.specs.Path.{Leads}
use Rattle.ll_leads.proofs.Joined.{leads_then, leads_more}
use Rattle.ll_leads.proofs.Ways.{rests, pays, lacks}
use Rattle.ll_texts.specs.Texts.{found}
use Rattle.ll_texts.proofs.Writing.{newest, put_mid}
use Rattle.rtyper_layout.specs.Layout.{is_list}
use Rattle.rtyper_layout.specs.Types.{word, type_of as element_type}
use Rattle.rtyper_data.specs.declared.body.Body.{Body}
use Rattle.rtyper_data.specs.declared.small.Small.{Small}
use Rattle.rtyper_data.specs.declared.small.Small.TheVariants as small
use Rattle.rtyper_data.specs.declared.small.Listed.TheVariants as listed
use Rattle.rtyper_data.specs.Converting.{by_small}
use Rattle.rtyper_data.specs.Finding.{small_number}
use Rattle.rtyper_op.specs.Lowering.{lower_op, is_never}
use Rattle.rtyper_data.specs.Numbers.{word as word_operand}
use Rattle.rtyper_data.specs.Seen.{Around, Operand, Place, type_of, Writing, writing, push}
use Rattle.rtyper_data.specs.Tuples.{variable_of, with_first}
use Rattle.list_shape.specs.Shapes.{item_of, shape_of}
use Rattle.rtyper_list.specs.Displays.{display, display_to, display_of, made, filled, items_as, set_items, put_list}
use Rattle.rtyper_list.specs.Lowering.{lowered, lowered_unless, lower_list_op}
use Rattle.rtyper_list.specs.Operands.{list_at, list_if, array_in}
use Rattle.lower_laws.specs.Asked.{Make}
use Rattle.lower_laws.specs.Values.{AllBelow}
use Rattle.lower_laws.proofs.Doing.{after}
use Rattle.lower_laws.proofs.Single.{sets}
use Rattle.lower_laws.proofs.Stayed.{field_is}
use Rattle.lower_laws.proofs.Tupled.{given_same}
use Rattle.object_laws.specs.Done.{Follows, HasLayout, references}
use Rattle.object_laws.specs.Ghost.{Ghost, ListOf}
use Rattle.object_laws.specs.Known.{Known}
use Rattle.object_laws.specs.Represents.{Represents, head_block, array_block}
use Rattle.object_laws.specs.Staying.{Stays}
use Rattle.object_laws.specs.Values.{Given, Holds, Listed, EachHolds, Empty, More}
use Rattle.object_laws.proofs.Blocks.{reads_field}
use Rattle.object_laws.proofs.Calling.{back, calls_back}
use Rattle.object_laws.proofs.Made.{get_first, with_list, list_grown, list_made}
use Rattle.object_laws.proofs.Passing.{Passed, operand_kept, is_set_at, is_kept_at}
use Rattle.object_laws.proofs.Valued.{stays_typed, stays_there, stays_comes, stays_held, held_set}
use Rattle.object_laws.proofs.Writing.{Written, writes_item}
use Rattle.list_laws.specs.Asked.{HasList}
use Rattle.list_laws.specs.Done.{IsDone}
use Rattle.list_laws.specs.Lists.{IsList, AllStay, ListsAreMade}
use Rattle.list_laws.proofs.Making.{made_list, raw_array}

pub too_few : (m n : ℕ) → nat_lt m n ≡ true → m < n
too_few m n h = grind (arith, nat_tests, h)

pub are_enough : (m n : ℕ) → nat_lt m n ≡ false → n ≤ m
are_enough m n h = grind (arith, nat_tests, h)

-- ---- operands

unfoldable pub xs_of : List Operand → List COperand
xs_of [] = []
xs_of (a ∷ args) = a.x ∷ xs_of args

unfoldable pub values_of : Core → List Operand → List Value
values_of core [] = []
values_of core (a ∷ args) = operand core.vars a.x ∷ values_of core args

pub values_long : (core : Core) (args : List Operand) → length (values_of core args) ≡ length args
unfolding values_of
values_long core [] = refl
values_long core (a ∷ args) = ap suc (values_long core args)

all_come : (known : Known) (around : Around) (item : Element) (args : List Operand) → AllStay around known args item → is_never args ≡ false
all_come known around item [] stay = refl
all_come known around item (a ∷ args) stay = ap (λ c. if c then true else is_never args) (stays_comes stay.0) ∙ all_come known around item args stay.1

items_same : (known : Known) (around : Around) (item : Element) (t : LlType) → ((a : Operand) → Stays around.layout known a.element (Some item) → type_of around a ≡ t) → (args : List Operand) (w : Writing) → AllStay around known args item → items_as around t args w ≡ (xs_of args, w)
unfolding xs_of
items_same known around item t typed [] w stay = refl
items_same known around item t typed (a ∷ args) w stay =
    ap (λ made. with_first made (items_as around t args)) (given_same around a t w (typed a stay.0))
    ∙ ap (λ (rest : List COperand × Writing). (a.x ∷ rest.0, rest.1)) (items_same known around item t typed args w stay.1)

pub each_of : (known : Known) (around : Around) (item : Element) (g : Ghost) (core : Core) (args : List Operand) (vs : List Meant) → AllStay around known args item → Given known around g core args vs → EachHolds around.layout known g (Some item) (values_of core args) vs
unfolding values_of
each_of known around item g core [] [] stay given = Empty
each_of known around item g core [] (v ∷ vs) stay given = absurd given
each_of known around item g core (a ∷ args) [] stay given = absurd given
each_of known around item g core (a ∷ args) (v ∷ vs) stay given = More (stays_held stay.0 given.0) (each_of known around item g core args vs stay.1 given.1)

unfoldable pub AllSet : List Value → Type 0
AllSet [] = Unit {0}
AllSet (x ∷ xs) = (is_unset x ≡ false) × AllSet xs

pub all_set : (known : Known) (around : Around) (g : Ghost) (world : World) (core core2 : Core) → Represents around.layout known g world.heap world.left core.blocks core.statics → (args : List Operand) (vs : List Meant) → Given known around g core2 args vs → AllSet (values_of core2 args)
unfolding values_of AllSet
all_set known around g world core core2 r [] vs given = tt
all_set known around g world core core2 r (a ∷ args) [] given = absurd given
all_set known around g world core core2 r (a ∷ args) (v ∷ vs) given = (held_set r given.0, all_set known around g world core core2 r args vs given.1)

pub count_is : (known : Known) (around : Around) (g : Ghost) (core : Core) (args : List Operand) (vs : List Meant) → Given known around g core args vs → length vs ≡ length args
count_is known around g core [] [] given = refl
count_is known around g core [] (v ∷ vs) given = absurd given
count_is known around g core (a ∷ args) [] given = absurd given
count_is known around g core (a ∷ args) (v ∷ vs) given = ap suc (count_is known around g core args vs given.1)

pub many : (known : Known) (around : Around) (g : Ghost) (world : World) (core : Core) (args : List Operand) (vs : List Meant) → Given known around g core args vs → length args + 1 ≤ references world.heap vs
many known around g world core [] [] given = omega arith
many known around g world core [] (v ∷ vs) given = absurd given
many known around g world core (a ∷ args) [] given = absurd given
many known around g world core (a ∷ args) (v ∷ vs) given = (let m : length args + 1 ≤ references world.heap vs = many known around g world core args vs given.1 in omega (arith, m))

-- ---- items are set one after another

unfoldable pub set_ops : ℕ → ℕ → ℕ → List COperand → List LlOp
set_ops array into i [] = []
set_ops array into i (x ∷ xs) = op.SetItem array into (word_operand (pos i)) x ∷ set_ops array into (i + 1) xs

pub items_written : (array into i : ℕ) (xs : List COperand) (body : Body) → set_items array into i xs body ≡ record { types = body.types; ops = body.ops ++ set_ops array into i xs }
unfolding set_ops
items_written array into i [] body = ap (λ ops. record { types = body.types; ops = ops }) (sym (append-nil body.ops))
items_written array into i (x ∷ xs) body =
    items_written array into (i + 1) xs (record body { ops = body.ops ++ op.SetItem array into (word_operand (pos i)) x ∷ [] })
    ∙ ap (λ ops. record { types = body.types; ops = ops }) (append_assoc body.ops (op.SetItem array into (word_operand (pos i)) x ∷ []) (set_ops array into (i + 1) xs))

-- the array between what was there and the head
abbrev pub with_items : List (Option Block) → ℕ → ℕ → List Value → Option Block → List (Option Block)
with_items bs a size items head = bs ++ Some (record { kind = a; fields = Word (pos size) ∷ []; items = items }) ∷ head ∷ []

pub record Filled (p : LlProgram) (args : List (List ℕ)) (ops rest : List LlOp) (e : LlExit) (frames : List Frame) (core : Core) (bs : List (Option Block)) (a size : ℕ) (items : List Value) (head : Option Block) (most : ℕ) : Type 0 where
  pub end : Core
  pub same : forgotten end ≡ forgotten (record core { blocks = with_items bs a size items head })
  pub vars : end.vars ≡ core.vars
  pub function : end.function ≡ core.function
  pub block : end.block ≡ core.block
  pub way : Leads p args most (At (ops ++ rest) e frames core) [] (At rest e frames end)

index_at : (bs : List (Option Block)) (b h : Option Block) → slice_index_or (bs ++ b ∷ h ∷ []) (length bs) None ≡ b
index_at [] b h = refl
index_at (c ∷ bs) b h = index_at bs b h

unfoldable pub Same : Core → Core → List Operand → Type 0
Same core other [] = Unit {0}
Same core other (a ∷ args) = (operand core.vars a.x ≡ operand other.vars a.x) × Same core other args

same_vars : (core core2 other : Core) (args : List Operand) → core2.vars ≡ core.vars → Same core other args → Same core2 other args
unfolding Same
same_vars core core2 other [] h same = tt
same_vars core core2 other (a ∷ args) h same = (ap (λ vars. operand vars a.x) h ∙ same.0, same_vars core core2 other args h same.1)

pub same_of : (core other less : Core) (args : List Operand) → other.vars ≡ less.vars → Same core other args → Same core less args
unfolding Same
same_of core other less [] h same = tt
same_of core other less (a ∷ args) h same = (same.0 ∙ ap (λ vars. operand vars a.x) h, same_of core other less args h same.1)

pub same_passed : {m : ℕ} (core other : Core) (args : List Operand) → Passed m other core → AllBelow m args → Same core other args
unfolding Same
same_passed core other [] passed under = tt
same_passed core other (a ∷ args) passed under = (operand_kept passed a.x under.0, same_passed core other args passed under.1)

module _ (p : LlProgram) (args : List (List ℕ)) (rest : List LlOp) (e : LlExit) (frames : List Frame) (bs : List (Option Block)) (n into size : ℕ) (head : Option Block) (arrays : shape_at (shapes_of p.structs) (word (n + 1)) ≡ shape_over (word (n + 1)) 1 None) (other : Core) where
  abbrev a : ℕ
  a = word (n + 1)

  abbrev array_of : List Value → Block
  array_of items = record { kind = a; fields = Word (pos size) ∷ []; items = items }

  pub fills : (given : List Operand) (core : Core) (pre : List Value) (i : ℕ) → i ≡ length pre → read core.vars into ≡ Ptr (length bs) → core.blocks ≡ with_items bs a size (pre ++ replicate (length given) Unset) head
      → Same core other given → AllSet (values_of other given) → Filled p args (set_ops a into i (xs_of given)) rest e frames core bs a size (pre ++ values_of other given) head (length given)
  unfolding set_ops xs_of values_of Same AllSet
  fills [] core pre i place there at same set = record { end = core; same = ap (λ bs. forgotten (record core { blocks = bs })) at; vars = refl; function = refl; block = refl; way = rests }
  fills (x ∷ given) core pre i place there at same set =
      let v : Value = operand other.vars x.x in
      let spare : List Value = replicate (length given) Unset in
      let block0 : Block = array_of (pre ++ Unset ∷ spare) in
      let is0 : found core.blocks core.statics (Ptr (length bs)) ≡ Some block0 = ap (λ l. slice_index_or l (length bs) None) at ∙ index_at bs (Some block0) head in
      let long : length (pre ++ Unset ∷ spare) ≡ length pre + length (Unset ∷ spare) = length-append pre (Unset ∷ spare) in
      let w1 : Written p args 1 (op.SetItem a into (word_operand (pos i)) x.x) (set_ops a into (i + 1) (xs_of given) ++ rest) e frames core (Ptr (length bs)) (array_of (slice_set (pre ++ Unset ∷ spare) i v)) =
      writes_item p args (set_ops a into (i + 1) (xs_of given) ++ rest) e frames core a into (word_operand (pos i)) x.x 1 block0 i v arrays refl refl (omega (arith, long, place)) same.0 set.0 (Ptr (length bs)) there is0 in
      let items_are : slice_set (pre ++ Unset ∷ spare) i v ≡ (pre ++ v ∷ []) ++ spare = put_mid pre Unset spare i v place ∙ sym (append_assoc pre (v ∷ []) spare) in
      let blocks1 : w1.end.blocks ≡ with_items bs a size ((pre ++ v ∷ []) ++ spare) head =
      w1.blocks ∙ ap (λ l. slice_set l (length bs) (Some (array_of (slice_set (pre ++ Unset ∷ spare) i v)))) at ∙ put_mid bs (Some block0) (head ∷ []) (length bs) (Some (array_of (slice_set (pre ++ Unset ∷ spare) i v))) refl
      ∙ ap (λ items. with_items bs a size items head) items_are in
      let longer : i + 1 ≡ length (pre ++ v ∷ []) = (let q = length-append pre (v ∷ []) in omega (arith, q, place)) in
      let r = fills given w1.end (pre ++ v ∷ []) (i + 1) longer (ap (λ vars. read vars into) w1.vars ∙ there) blocks1 (same_vars core w1.end other given w1.vars same.1) set.1 in
      let whole : (pre ++ v ∷ []) ++ values_of other given ≡ pre ++ v ∷ values_of other given = append_assoc pre (v ∷ []) (values_of other given) in
      record {
        end = r.end;
        same = r.same ∙ ap (λ (c : Core). record c { blocks = with_items bs a size ((pre ++ v ∷ []) ++ values_of other given) head }) w1.memory
            ∙ ap (λ ss. forgotten (record core { blocks = with_items bs a size ((pre ++ v ∷ []) ++ values_of other given) head; statics = ss })) w1.statics
            ∙ ap (λ items. forgotten (record core { blocks = with_items bs a size items head })) whole;
        vars = r.vars ∙ w1.vars;
        function = r.function ∙ w1.function;
        block = r.block ∙ w1.block_at;
        way = leads_more (1 + length given) (length (x ∷ given)) (omega arith) (leads_then w1.way r.way);
      }

-- ---- the operation

module _ (known : Known) (around : Around) (place : Place) (args : List Operand) (w : Writing) (covers : Covers) (site n : ℕ) (item : Element) (of : IsList around known place.element n item) (struct : is_list around.layout n ≡ true) (stay : AllStay around known args item) where
  abbrev count : ℕ
  count = length args

  abbrev graph : Small
  graph = small.Listed (listed.Make n)

  abbrev number : ℕ
  number = (small_number graph w.found).0

  abbrev m1 : ℕ
  m1 = length w.body.types

  abbrev m2 : ℕ
  m2 = length (w.body.types ++ type.Ptr n ∷ [])

  abbrev pays_all : LlOp
  pays_all = op.Step (word_operand (pos (count + 1)))

  abbrev makes : LlOp
  makes = op.Call (Some m1) number (word_operand (pos count) ∷ [])

  abbrev gets_array : LlOp
  gets_array = op.GetField m2 n m1 1

  abbrev fillings : List LlOp
  fillings = set_ops (word (n + 1)) m2 0 (xs_of args)

  abbrev puts : LlOp
  puts = op.Set place.variable (Var m1)

  m2_is : m2 ≡ m1 + 1
  m2_is = length-append w.body.types (type.Ptr n ∷ [])

  list_there : list_at around place ≡ Some n
  unfolding list_at
  list_there = ap (list_if around.layout) of.typed ∙ ap (λ c. if c then Some n else None) struct

  typed : (a : Operand) → Stays around.layout known a.element (Some item) → type_of around a ≡ item_of around.layout (word (n + 1))
  typed a s = stays_typed s ∙ sym (of.items ∙ field_is (element_type around.layout item) (λ h. stays_there s h))

  abbrev begun_body : Body
  begun_body = record { types = (w.body.types ++ type.Ptr n ∷ []) ++ type.Ptr (word (n + 1)) ∷ []; ops = ((w.body.ops ++ pays_all ∷ []) ++ makes ∷ []) ++ gets_array ∷ [] }

  written : lower_list_op around (row.List site) place args w ≡ writing (small_number graph w.found).1 (record { types = begun_body.types; ops = (begun_body.ops ++ fillings) ++ puts ∷ [] })
  unfolding lowered display display_of made by_small variable_of filled array_in
  written =
      ap (λ c. if c then lower_op around (row.List site) place args w else lowered_unless false around (row.List site) place args w) (all_come known around item args stay)
      ∙ ap (λ r. display_to around place args r (push pays_all w)) list_there
      ∙ ap (λ (made_items : List COperand × Writing). put_list place (shape_of around.layout n) made_items.0 (made n count made_items.1)) (items_same known around item (item_of around.layout (word (n + 1))) typed args (push pays_all w) stay)
      ∙ ap (λ (body : Body). writing (small_number graph w.found).1 (record body { ops = body.ops ++ puts ∷ [] })) (items_written (word (n + 1)) m2 0 (xs_of args) begun_body)

  module _ (p : LlProgram) (raised : ℕ → Value) (arguments : List (List ℕ)) (rest : List LlOp) (e : LlExit) (frames : List Frame) (core : Core) (g : Ghost) (world : World) (vs : List Meant) (most : ℕ)
      (structs : HasLayout p around.layout) (has : HasList p around.layout raised (listed.Make n) number)
      (stands : Represents around.layout known g world.heap world.left core.blocks core.statics) (left : world.left ≡ core.steps) (room : m1 + 2 ≤ length core.vars) (inside : place.variable < m1) (under : AllBelow m1 args)
      (given : Given known around g core args vs) (enough_most : count + 1 ≤ most) where
    abbrev Here : State
    Here = At (pays_all ∷ makes ∷ gets_array ∷ (fillings ++ (puts ∷ rest))) e frames core

    abbrev Done : Answer → Type 0
    Done answer = Follows 2 known around place p arguments Here rest e frames core g raised most m1 world answer

    lacking : world.left < count + 1 → Done Lacks
    lacking short = record { last = Here; leads = rests; ends = lacks p arguments (makes ∷ gets_array ∷ (fillings ++ (puts ∷ rest))) e frames core (word_operand (pos (count + 1))) (count + 1) refl (omega (arith, short, left)); blocks = refl; holds = λ placed b h. h }

    abbrev bs : List (Option Block)
    bs = core.blocks

    abbrev bs1 : List (Option Block)
    bs1 = bs ++ Some (raw_array n count) ∷ []

    abbrev head : ℕ
    head = length bs1

    abbrev head_is_block : Block
    head_is_block = head_block n count (Ptr (length bs))

    abbrev fewer : ℕ
    fewer = world.left - (count + 1)

    abbrev core1 : Core
    core1 = record core { at = core.at + 1; steps = fewer }

    abbrev core2 : Core
    core2 = back core1 (record core1 { blocks = bs1 ++ Some head_is_block ∷ [] }) (Some m1) (Ptr head)

    abbrev core3 : Core
    core3 = after core2 m2 (Ptr (length bs))

    abbrev values : List Value
    values = values_of core args

    abbrev world2 : World
    world2 = record world { heap = world.heap ++ ListedObject vs ∷ []; left = fewer }

    blocks3 : core3.blocks ≡ with_items bs (word (n + 1)) count ([] ++ replicate count Unset) (Some head_is_block)
    blocks3 = append_assoc bs (Some (raw_array n count) ∷ []) (Some head_is_block ∷ [])

    long2 : length core2.vars ≡ length core.vars
    long2 = length-set core.vars m1 (Ptr head)

    passed3 : Passed m1 (record core { blocks = core3.blocks; steps = fewer }) core3
    passed3 = record {
      memory = refl;
      others = λ k low. is_kept_at core2 m2 k (Ptr (length bs)) (λ q. omega (arith, low, q, m2_is)) ∙ is_kept_at core m1 k (Ptr head) (λ q. omega (arith, low, q));
      room = length-set core2.vars m2 (Ptr (length bs)) ∙ long2;
      function = refl;
      block = refl;
    }

    head_at : read core2.vars m1 ≡ Ptr head
    head_at = is_set_at core m1 (Ptr head) (omega (arith, room))

    same_given : Same core3 core args
    same_given = same_of core3 (record core { blocks = core3.blocks; steps = fewer }) core args refl (same_passed core3 (record core { blocks = core3.blocks; steps = fewer }) args passed3 under)

    filled_all : Filled p arguments fillings (puts ∷ rest) e frames core3 bs (word (n + 1)) count ([] ++ values) (Some head_is_block) count
    filled_all = fills p arguments (puts ∷ rest) e frames bs n m2 count (Some head_is_block) (structs.arrays n struct) core args core3 [] 0 refl (is_set_at core2 m2 (Ptr (length bs)) (omega (arith, room, m2_is, long2))) blocks3 same_given (all_set known around g world core core stands args vs given)

    each : EachHolds around.layout known g (known.items n) values vs
    each = subst (λ seen. EachHolds around.layout known g seen values vs) (sym of.item_is) (each_of known around item g core args vs stay given)

    counts : length vs ≡ count
    counts = count_is known around g core args vs given

    values_are : length values ≡ count
    values_are = values_long core args

    blocks_are : filled_all.end.blocks ≡ bs ++ Some (array_block n values) ∷ Some (head_block n (length vs) (Ptr (length bs))) ∷ []
    blocks_are = ap (λ (c : Core). c.blocks) filled_all.same
        ∙ ap (λ k. bs ++ Some (record { kind = word (n + 1); fields = Word (pos k) ∷ []; items = values }) ∷ Some head_is_block ∷ []) (sym values_are)
        ∙ ap (λ k. bs ++ Some (array_block n values) ∷ Some (head_block n k (Ptr (length bs))) ∷ []) (sym counts)

    statics_are : filled_all.end.statics ≡ core.statics
    statics_are = ap (λ (c : Core). c.statics) filled_all.same

    head_is : head ≡ length g.blocks + 1
    head_is = length-append bs (Some (raw_array n count) ∷ []) ∙ ap (λ k. k + 1) (sym stands.made)

    abbrev ghost : Ghost
    ghost = with_list g n (length world.heap)

    held : Holds around.layout known ghost place.element (Ptr head) (Ref (length world.heap))
    held = Listed n (length world.heap) of.is refl of.typed struct (get_first g.homes [] (record { sort = ListOf n; head = Ptr (length g.blocks + 1) }) (length world.heap) (sym stands.homes) ∙ ap (λ k. Some (record { sort = ListOf n; head = Ptr k })) (sym head_is))

    vars_are : filled_all.end.vars ≡ core3.vars
    vars_are = filled_all.vars

    end_at : read filled_all.end.vars m1 ≡ Ptr head
    end_at = ap (λ vars. read vars m1) vars_are ∙ is_kept_at core2 m2 m1 (Ptr (length bs)) (λ q. omega (arith, q, m2_is)) ∙ head_at

    long_end : length filled_all.end.vars ≡ length core.vars
    long_end = ap length vars_are ∙ passed3.room

    memory_is : forgotten filled_all.end ≡ forgotten (record core { blocks = filled_all.end.blocks; statics = filled_all.end.statics; steps = fewer })
    memory_is = filled_all.same
        ∙ ap (λ bs. forgotten (record core { blocks = bs; steps = fewer })) (sym (ap (λ (c : Core). c.blocks) filled_all.same))
        ∙ ap (λ ss. forgotten (record core { blocks = filled_all.end.blocks; statics = ss; steps = fewer })) (sym statics_are)

    paying : count + 1 ≤ world.left → Done (Gives (Ref (length world.heap)) world2)
    paying enough = record {
      end = after filled_all.end place.variable (Ptr head);
      text = [];
      leads = leads_more (0 + (1 + (0 + (count + 0)))) most (omega (arith, enough_most)) (leads_then (pays (count + 1) fewer refl (omega (arith, left, enough))) (leads_then calls (leads_then gets (leads_then filled_all.way (sets (Ptr head) end_at refl)))));
      ghost = ghost;
      grown = list_grown g n (length world.heap);
      stands = subst (λ ss. Represents around.layout known ghost world2.heap fewer filled_all.end.blocks ss) (sym statics_are)
          (subst (λ bs. Represents around.layout known ghost world2.heap fewer bs core.statics) (sym blocks_are)
          (list_made stands n fewer values vs (omega arith) struct each (let f = stands.few in omega (arith, f, enough, values_are)) (let f = stands.few in omega (arith, f, enough, counts)) (structs.lists_apart n struct)));
      holds = subst (λ x. Holds around.layout known ghost place.element x (Ref (length world.heap))) (sym (is_set_at filled_all.end place.variable (Ptr head) (omega (arith, room, inside, long_end)))) held;
      few = (let l : length filled_all.end.blocks ≡ length bs + 2 = ap length blocks_are ∙ length-append bs (Some (array_block n values) ∷ Some (head_block n (length vs) (Ptr (length bs))) ∷ []) in omega (arith, l));
      memory = memory_is;
      others = λ k low other. is_kept_at filled_all.end place.variable k (Ptr head) other ∙ ap (λ vars. read vars k) vars_are ∙ passed3.others k low;
      room = length-set filled_all.end.vars place.variable (Ptr head) ∙ long_end;
      function = filled_all.function;
      block = filled_all.block;
      out = sym (append-nil world.out);
    }
      where
        calls : Leads p arguments 1 (At (makes ∷ gets_array ∷ (fillings ++ (puts ∷ rest))) e frames core1) [] (At (gets_array ∷ (fillings ++ (puts ∷ rest))) e frames core2)
        calls = calls_back 1 refl refl (made_list p arguments around.layout n number count (structs.heads n struct) (structs.arrays n struct) has.graph core1)

        gets : Leads p arguments 0 (At (gets_array ∷ (fillings ++ (puts ∷ rest))) e frames core2) [] (At (fillings ++ (puts ∷ rest)) e frames core3)
        gets = reads_field 2 head_is_block (Ptr (length bs)) (structs.heads n struct) (ap (found core2.blocks core2.statics) head_at ∙ newest bs1 (Some head_is_block) None) refl refl 1 refl

    costs : (k : ℕ) → k ≡ count → (if nat_lt world.left (1 + k) then Lacks else Gives (Ref (length world.heap)) (record world { heap = world.heap ++ ListedObject vs ∷ []; left = world.left - (1 + k) })) ≡ (if nat_lt world.left (count + 1) then Lacks else Gives (Ref (length world.heap)) world2)
    costs k h = ap (λ c. if nat_lt world.left c then Lacks else Gives (Ref (length world.heap)) (record world { heap = world.heap ++ ListedObject vs ∷ []; left = world.left - c })) (let q : 1 + k ≡ count + 1 = omega (arith, h) in q)

    displayed : Done (meant_op known.program covers (row.List site) vs world)
    displayed = subst Done (sym (costs (length vs) counts)) (by (nat_lt world.left (count + 1)) refl)
      where
        by : (c : Bool) → nat_lt world.left (count + 1) ≡ c → Done (if c then Lacks else Gives (Ref (length world.heap)) world2)
        by true h = lacking (too_few world.left (count + 1) h)
        by false h = paying (are_enough world.left (count + 1) h)

  four_more : {A : Type 0} (xs : List A) (a b c : A) (ys : List A) (d : A) → ((((xs ++ a ∷ []) ++ b ∷ []) ++ c ∷ []) ++ ys) ++ d ∷ [] ≡ xs ++ a ∷ b ∷ c ∷ (ys ++ d ∷ [])
  four_more xs a b c ys d =
      append_assoc (((xs ++ a ∷ []) ++ b ∷ []) ++ c ∷ []) ys (d ∷ [])
      ∙ append_assoc ((xs ++ a ∷ []) ++ b ∷ []) (c ∷ []) (ys ++ d ∷ [])
      ∙ append_assoc (xs ++ a ∷ []) (b ∷ []) (c ∷ (ys ++ d ∷ []))
      ∙ append_assoc xs (a ∷ []) (b ∷ c ∷ (ys ++ d ∷ []))

  pub made_done : IsDone known around (row.List site) covers (Make graph ∷ []) place args w
  made_done = record {
    ops = pays_all ∷ makes ∷ gets_array ∷ (fillings ++ puts ∷ []);
    new = type.Ptr n ∷ type.Ptr (word (n + 1)) ∷ [];
    asked = ap (λ (r : Writing). r.found) written;
    written = ap (λ (r : Writing). r.body.ops) written ∙ four_more w.body.ops pays_all makes gets_array fillings puts;
    types = ap (λ (r : Writing). r.body.types) written ∙ append_assoc w.body.types (type.Ptr n ∷ []) (type.Ptr (word (n + 1)) ∷ []);
    follows = λ p numbers raised arguments rest e frames core g world vs structs has stands left room inside under given good.
        subst (λ l. Follows 2 known around place p arguments (At l e frames core) rest e frames core g raised (references world.heap vs) m1 world (meant_op known.program covers (row.List site) vs world)) (sym (ap (λ l. pays_all ∷ makes ∷ gets_array ∷ l) (append_assoc fillings (puts ∷ []) rest)))
        (displayed p raised arguments rest e frames core g world vs (references world.heap vs) structs has.0 stands left room inside under given (many known around g world core args vs given));
  }

pub lists_are_made : ListsAreMade
lists_are_made site known around place args w covers n item of struct stay = made_done known around place args w covers site n item of struct stay
