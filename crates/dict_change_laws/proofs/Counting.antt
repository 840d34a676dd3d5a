-- How many places a dict has once it grew, and how long its index is then.
use Rattle.std.proofs.Common.{◌≡◌, ◌<◌, ◌≤◌, ℕ, ◌+◌, ◌^◌, ◌||◌, Bool, true, false, List, [], ◌∷◌, Option, Some, None, Ok, pos, refl, sym, ap, subst, arith}
use Rattle.std.specs.Prelude.{slice_get, slice_set, min, nat_le, int_le}
use Rattle.std.proofs.lemmas.Bool.Decides.{nat_tests}
use Rattle.csub_tree.specs.State.{Value, Unset, Word, Flag, Core}
use Rattle.csub_tree.specs.Layout.{shape_at, shape_over}
use Rattle.csub_tree.specs.Operation.{is_unset, binary_of}
use Rattle.csub_tree.specs.Statement.{operand}
use Rattle.csub_tree.specs.declared.tree.CBinary.TheVariants as binary
use Rattle.csub_tree.specs.declared.tree.COperand.TheVariants.{Var}
use Rattle.ll_build.specs.Build.{done}
use Rattle.ll_code.specs.State.{Frame, Calling, At}
use Rattle.ll_code.specs.Machine.{shapes_of}
use Rattle.ll_code.specs.declared.program.LlOp.{LlOp}
use Rattle.ll_code.specs.declared.program.LlExit.{LlExit}
use Rattle.ll_code.specs.declared.program.LlGraph.{LlGraph}
use Rattle.ll_code.specs.declared.program.LlProgram.{LlProgram}
use Rattle.ll_helpers.specs.Words.{word_min}
use Rattle.ll_leads.specs.Path.{Leads}
use Rattle.ll_leads.proofs.Joined.{leads_then, leads_more}
use Rattle.ll_leads.proofs.Ways.{many, one as one_step, enter, gives}
use Rattle.ll_texts.specs.Texts.{found}
use Rattle.ll_texts.proofs.Numbers.{adds, less_true, less_false}
use Rattle.rtyper_dict.specs.declared.parts.DictShape.{DictShape}
use Rattle.rtyper_dict.specs.Growing.{grow_graph, grow_asks, grow_counts, grow_makes, grow_copies, grow_ends, grow_types, index_length}
use Rattle.rtyper_dict.specs.Indexing.{size}
use Rattle.dict_laws.specs.Masks.{IsLength}
use Rattle.object_laws.specs.Dicts.{dict_block}
use Rattle.object_laws.proofs.Blocks.{found_set, reads_field}
use Rattle.object_laws.proofs.Calling.{Returns, calls_back}
use Rattle.dict_laws.proofs.Masked.{indices_are_longer}
use Rattle.dict_change_laws.proofs.Sizing.{sized}
use Rattle.dict_change_laws.proofs.Standing.{greatest}

-- ---- the graph

abbrev pub the_grow : ℕ → Option ℕ → ℕ → ℕ → Option ℕ → Option ℕ → Option ℕ → DictShape → LlGraph
the_grow least sizes copies copies2 fills fills2 indexes d = grow_graph d (grow_asks d ∷ done ∷ grow_counts least sizes ∷ grow_makes d ∷ grow_copies copies copies2 d ∷ grow_ends fills fills2 indexes d ∷ [])

-- ---- the smaller word

at_most : (m n : ℕ) → m ≤ n → binary_of binary.Le (Word (pos m)) (Word (pos n)) ≡ Ok (Flag true)
at_most m n h = let e : int_le (pos m) (pos n) ≡ true = grind (arith, nat_tests, h) in ap (λ b. Ok (Flag b)) e

more_than : (m n : ℕ) → n < m → binary_of binary.Le (Word (pos m)) (Word (pos n)) ≡ Ok (Flag false)
more_than m n h = let e : int_le (pos m) (pos n) ≡ false = grind (arith, nat_tests, h) in ap (λ b. Ok (Flag b)) e

pub least_is : (p : LlProgram) (args : List (List ℕ)) (f : ℕ) (core : Core) → slice_get p.graphs f ≡ Some word_min → (a b : ℕ) (waits : List Frame) → Returns p args 0 (Calling f (Word (pos a) ∷ Word (pos b) ∷ []) waits core) (Word (pos (min a b))) waits core
least_is p args f core graph a b waits = by (nat_le a b) refl
  where
    by : (c : Bool) → nat_le a b ≡ c → Returns p args 0 (Calling f (Word (pos a) ∷ Word (pos b) ∷ []) waits core) (Word (pos (min a b))) waits core
    by true h = (let le : a ≤ b = grind (arith, nat_tests, h) in let q : a ≡ min a b = omega (arith, le) in subst (λ n. Returns p args 0 (Calling f (Word (pos a) ∷ Word (pos b) ∷ []) waits core) (Word (pos n)) waits core) q (record {
      end = _;
      same = refl;
      leads = leads_more (0 + (0 + 0)) 0 (omega arith) (leads_then (enter graph refl) (leads_then (gives (Flag true) (at_most a b le)) (many 2 graph refl refl)));
    }))
    by false h = (let less : b < a = grind (arith, nat_tests, h) in let q : b ≡ min a b = omega (arith, less) in subst (λ n. Returns p args 0 (Calling f (Word (pos a) ∷ Word (pos b) ∷ []) waits core) (Word (pos n)) waits core) q (record {
      end = _;
      same = refl;
      leads = leads_more (0 + (0 + 0)) 0 (omega arith) (leads_then (enter graph refl) (leads_then (gives (Flag false) (more_than a b less)) (many 2 graph refl refl)));
    }))

-- ---- how many places

abbrev pub most_more : ℕ
most_more = 1152921504606846976

abbrev pub most_places : ℕ
most_places = 4611686018427387903

-- twice as many and 4 more, as far as that goes
abbrev pub more_places : ℕ → ℕ
more_places places = min (min places most_more + 4 + places) most_places

pub places_small : (places : ℕ) → more_places places < 2 ^ 62
places_small places = omega arith

pub places_grow : (places : ℕ) → places + 1 < 2 ^ 62 → places < more_places places
places_grow places h = omega (arith, h)

-- ---- the length of the index

abbrev pub LengthIf : Bool → ℕ → ℕ → Type 0
LengthIf true places size = IsLength places size
LengthIf false places size = size ≡ 0

abbrev pub SizesBy : LlProgram → Bool → Option ℕ → Type 0
SizesBy p true (Some s) = slice_get p.graphs s ≡ Some size
SizesBy p true None = ⊥
SizesBy p false o = o ≡ None

abbrev pub new_length : Bool → (places : ℕ) → places < 2 ^ 62 → ℕ
new_length true places few = (indices_are_longer places few).0.0
new_length false places few = 0

pub length_is : (c : Bool) (places : ℕ) (few : places < 2 ^ 62) → LengthIf c places (new_length c places few)
length_is true places few = (indices_are_longer places few).1 (indices_are_longer places few).0.0 (indices_are_longer places few).0.1
length_is false places few = refl

pub length_short : (c : Bool) (places : ℕ) (few : places < 2 ^ 62) → new_length c places few ≤ 2 ^ 62
length_short true places few = (let l = length_is true places few in let g = greatest l.bits l.few in let e = l.is in omega (arith, g, e))
length_short false places few = omega arith

module _ (p : LlProgram) (args : List (List ℕ)) (ops : List LlOp) (e : LlExit) (waits : List Frame) (core : Core) (places : ℕ) (few : places < 2 ^ 62) (at : operand core.vars (Var 5) ≡ Word (pos places)) where
  length_reads : (c : Bool) (sizes : Option ℕ) → SizesBy p c sizes → Leads p args 0 (At (index_length sizes ∷ ops) e waits core) [] (At ops e waits (record core { at = core.at + 1; vars = slice_set core.vars 6 (Word (pos (new_length c places few))) }))
  length_reads true (Some s) graph = calls_back 0 (ap (λ x. x ∷ []) at) refl (λ waits. sized p args s graph waits core places (new_length true places few) few (indices_are_longer places few).0.1)
  length_reads true None none = absurd none
  length_reads false o none = subst (λ o. Leads p args 0 (At (index_length o ∷ ops) e waits core) [] (At ops e waits (record core { at = core.at + 1; vars = slice_set core.vars 6 (Word (pos 0)) }))) (sym none) (one_step refl refl)

-- ---- up to where arrays are made

module _ (p : LlProgram) (args : List (List ℕ)) (d : DictShape) (f least : ℕ) (sizes : Option ℕ) (c1 c2 : ℕ) (f1 f2 ix : Option ℕ) (graph : slice_get p.graphs f ≡ Some (the_grow least sizes c1 c2 f1 f2 ix d)) (least_graph : slice_get p.graphs least ≡ Some word_min) (c : Bool) (sizing : SizesBy p c sizes)
    (head_shape : shape_at (shapes_of p.structs) d.dict ≡ shape_over d.dict 4 None) (core : Core) (head one two : Value) (count places : ℕ) (head_is : found core.blocks core.statics head ≡ Some (dict_block d.dict count places one two)) (waits : List Frame) where
  head_set : is_unset head ≡ false
  head_set = found_set core.blocks core.statics head _ head_is

  -- a place is free
  pub enough : count < places → Returns p args 0 (Calling f (head ∷ []) waits core) Unset waits core
  unfolding grow_asks grow_counts grow_makes grow_copies grow_ends grow_types
  enough room = record {
    end = _;
    same = refl;
    leads = leads_more (0 + (0 + (0 + (0 + 0)))) 0 (omega arith)
        (leads_then (enter graph refl)
        (leads_then (reads_field 4 (dict_block d.dict count places one two) (Word (pos count)) head_shape head_is refl refl 0 refl)
        (leads_then (reads_field 4 (dict_block d.dict count places one two) (Word (pos places)) head_shape head_is refl refl 1 refl)
        (leads_then (gives (Flag true) (less_true count places room)) (many 2 graph refl refl)))));
  }

  abbrev pub places2 : ℕ
  places2 = more_places places

  abbrev pub size2 : ℕ
  size2 = new_length c places2 (places_small places)

  -- none is
  pub counts : places ≤ count → places + 1 < 2 ^ 62 → Leads p args 0 (Calling f (head ∷ []) waits core) [] (At (grow_makes d).ops (grow_makes d).exit waits (record core {
    function = f;
    block = 3;
    at = 0;
    vars = head ∷ Word (pos count) ∷ Word (pos places) ∷ Flag false ∷ Word (pos (min places most_more + 4)) ∷ Word (pos places2) ∷ Word (pos size2) ∷ Unset ∷ Unset ∷ Unset ∷ Unset ∷ Unset ∷ Unset ∷ Unset ∷ Word (pos (min places most_more + 4 + places)) ∷ [];
  }))
  unfolding grow_asks grow_counts grow_makes grow_copies grow_ends grow_types
  counts full small = leads_more (0 + (0 + (0 + (0 + (0 + (0 + (0 + (0 + (0 + (0 + 0)))))))))) 0 (omega arith)
      (leads_then (enter graph refl)
      (leads_then (reads_field 4 (dict_block d.dict count places one two) (Word (pos count)) head_shape head_is refl refl 0 refl)
      (leads_then (reads_field 4 (dict_block d.dict count places one two) (Word (pos places)) head_shape head_is refl refl 1 refl)
      (leads_then (gives (Flag false) (less_false count places full))
      (leads_then (many 1 graph refl (ap (λ b. b || (false || false)) head_set))
      (leads_then (calls_back 0 refl refl (λ waits. least_is p args least _ least_graph places most_more waits))
      (leads_then (gives (Word (pos (min places most_more + 4))) (adds (min places most_more) 4 (omega arith)))
      (leads_then (gives (Word (pos (min places most_more + 4 + places))) (adds (min places most_more + 4) places (omega (arith, small))))
      (leads_then (calls_back 0 refl refl (λ waits. least_is p args least _ least_graph (min places most_more + 4 + places) most_places waits))
      (leads_then (length_reads p args _ _ waits _ places2 (places_small places) refl c sizes sizing) (many 1 graph refl (ap (λ b. b || (false || (false || (false || false)))) head_set))))))))))))
