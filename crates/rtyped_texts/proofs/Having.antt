-- What `split` and `join` ask for stands where it was asked for.
use Rattle.std.proofs.Common.{◌≡◌, ◌<◌, inl, inr, ℕ, zero, suc, ◌+◌, ◌^◌, Bool, true, false, List, [], ◌∷◌, ◌++◌, length, map, take, drop, Some, pos, refl, sym, ap, ◌∙◌, subst}
use Rattle.std.specs.Prelude.{slice_get}
use Rattle.csub_tree.specs.State.{Word, Core}
use Rattle.csub_tree.specs.Layout.{Shape as StructShape, cell_constants, cell_step, constant, joined, shape_at, static_block}
use Rattle.csub_tree.specs.declared.tree.CConst.{CConst}
use Rattle.csub_tree.specs.declared.tree.CConst.TheVariants as const
use Rattle.csub_tree.specs.declared.tree.CCell.{CCell}
use Rattle.csub_tree.specs.declared.tree.CCell.TheVariants.{Const, Braces, rolls-Const, rolls-Braces}
use Rattle.csub_tree.specs.declared.tree.CCell.TheOpen.{CCell-F}
use Rattle.csub_tree.specs.declared.tree.CCell.TheFolds.{fold-roll-CCell}
use Rattle.ll_code.specs.Machine.{shapes_of}
use Rattle.ll_code.specs.declared.program.LlProgram.{LlProgram}
use Rattle.ll_build.specs.declared.needs.Helper.TheVariants.{StrOfChar}
use Rattle.ll_build.specs.declared.needs.Numbers.{Numbers}
use Rattle.ll_texts.specs.Texts.{HasText, found, text_block}
use Rattle.rtyper_layout.specs.declared.layout.Layout.{Layout}
use Rattle.rtyper_layout.specs.Types.{word}
use Rattle.rtyper_data.specs.declared.found.Found.{Found}
use Rattle.rtyper_data.specs.declared.small.Listed.TheVariants.{Copy, Join, Make as MakeList, Part, Split}
use Rattle.rtyper_data.specs.declared.small.Small.{Small}
use Rattle.rtyper_data.specs.declared.small.Small.TheVariants as small
use Rattle.rtyper_data.specs.Converting.{helped, value_as}
use Rattle.rtyper_data.specs.Finding.{helper_number, small_number}
use Rattle.rtyper_data.specs.Tuples.{variable_of}
use Rattle.rtyper_class.specs.Seen.{World}
use Rattle.rtyper_program.specs.Program.{pass}
use Rattle.rtyper_program.specs.Seen.{Known}
use Rattle.list_shape.specs.Shapes.{item_of}
use Rattle.list_helpers.specs.Listing.{list_graph}
use Rattle.list_texts.specs.Splitting.{counted, empty, item_text, join, join_types, part, put, split}
use Rattle.list_laws.specs.Asked.{HasList}
use Rattle.growth_laws.specs.Growing.{Grows}
use Rattle.growth_laws.proofs.Data.{then_grows}
use Rattle.growth_laws.proofs.Growing.{helpers_grow, smalls_grow}
use Rattle.layout_laws.specs.Statics.{statics_of}
use Rattle.program_asks.specs.Standing.{HasAsked, Stands, last_in}
use Rattle.rtyped_laws.specs.Having.{raised_in}
use Rattle.conversion_laws.proofs.Cells.{static_is, text_same}
use Rattle.split_laws.specs.Asked.{HasPart, HasSplit}
use Rattle.join_laws.specs.Asked.{HasJoin, are_bytes, copying, with_letter}
use Rattle.join_laws.proofs.Graph.{item_type, shape_with}
use Rattle.rtyped_texts.specs.Having.{EmptyStringsStand, JoinsHaveTheirs, SplitsHaveTheirs, TextsStand}

module _ (p : LlProgram) (known : Known) (world : World) (numbers : Numbers) (first last : Found) (has : HasAsked p known world numbers first last) (few : length p.graphs < 2 ^ 64) (core : Core) (texts : TextsStand p numbers core last) where
  abbrev layout : Layout
  layout = world.around.layout

  abbrev Asked : Small → Found → Type 0
  Asked s made = Grows (small_number s made).1 last

  stands : (s : Small) (made : Found) → Asked s made → Stands p.graphs world last (small_number s made).0 s
  stands s made late = has.smalls few s made late

  earlier : (s : Small) (made : Found) → Asked s made → Grows made last
  earlier s made late = then_grows (smalls_grow s made) late

  earlier_letter : (made : Found) → Grows (helper_number StrOfChar made).1 last → Grows made last
  earlier_letter made late = then_grows (helpers_grow StrOfChar made) late

  has_copy : (made : Found) → Asked (small.Listed (Copy 0 0)) made → HasList p layout (raised_in world) (Copy 0 0) (small_number (small.Listed (Copy 0 0)) made).0
  has_copy made late = (let s = stands (small.Listed (Copy 0 0)) made late in record { made = s.made; graph = s.graph; raises = tt })

  has_make : (n : ℕ) (made : Found) → Asked (small.Listed (MakeList n)) made → HasList p layout (raised_in world) (MakeList n) (small_number (small.Listed (MakeList n)) made).0
  has_make n made late = (let s = stands (small.Listed (MakeList n)) made late in record { made = s.made; graph = s.graph; raises = tt })

  has_part : (made : Found) → Asked (small.Listed Part) made → HasPart p layout numbers (raised_in world) core (small_number (small.Listed Part) made).0
  unfolding part
  has_part made late =
      let s = stands (small.Listed Part) made late in
      let copied : Grows (small_number (small.Listed (Copy 0 0)) (helper_number StrOfChar (empty s.made).1).1).1 last = s.grows in
      let lettered : Grows (helper_number StrOfChar (empty s.made).1).1 last = earlier (small.Listed (Copy 0 0)) (helper_number StrOfChar (empty s.made).1).1 copied in
      record { made = s.made; graph = s.graph; nothing = texts.nothing s.made (earlier_letter (empty s.made).1 lettered); letter = texts.letters (empty s.made).1 lettered; copies = has_copy (helper_number StrOfChar (empty s.made).1).1 copied }

  has_split : (n : ℕ) (made : Found) → Asked (small.Listed (Split n)) made → HasSplit p layout numbers (raised_in world) core n (small_number (small.Listed (Split n)) made).0
  unfolding split
  has_split n made late =
      let s = stands (small.Listed (Split n)) made late in
      let parts : Grows (small_number (small.Listed Part) (small_number (small.Listed (MakeList n)) s.made).1).1 last = s.grows in
      record { made = s.made; graph = s.graph; makes = has_make n s.made (earlier (small.Listed Part) (small_number (small.Listed (MakeList n)) s.made).1 parts); parts = has_part (small_number (small.Listed (MakeList n)) s.made).1 parts }

  -- what was asked for in the end
  join_found : (n : ℕ) (bytes : Bool) (made : Found) → (join layout (shape_with layout n made (item_type bytes)) made).1 ≡ (small_number (small.Listed Part) (with_letter bytes (copying bytes made))).1
  unfolding join counted item_text put variable_of helped value_as join_types
  join_found n true made = refl
  join_found n false made = refl

  join_grows : (n : ℕ) (bytes : Bool) (made : Found) → item_of layout (word (n + 1)) ≡ item_type bytes → Grows (list_graph layout (Join n) made).1 last → Grows (small_number (small.Listed Part) (with_letter bytes (copying bytes made))).1 last
  join_grows n bytes made h late = subst (λ f. Grows f last) (ap (λ ty. (join layout (shape_with layout n made ty) made).1) h ∙ join_found n bytes made) late

  earlier_with : (bytes : Bool) (made : Found) → Grows (with_letter bytes made) last → Grows made last
  earlier_with true made late = earlier_letter made late
  earlier_with false made late = late

  letter_of : (bytes : Bool) (made : Found) → bytes ≡ true → Grows (with_letter bytes made) last → Grows (helper_number StrOfChar made).1 last
  letter_of true made h late = late
  letter_of false made h late = absurd (cc)

  has_join : (n : ℕ) (bytes : Bool) → item_of layout (word (n + 1)) ≡ item_type bytes → (made : Found) → Asked (small.Listed (Join n)) made → HasJoin p layout numbers (raised_in world) core bytes n (small_number (small.Listed (Join n)) made).0
  has_join n bytes h made late =
      let s = stands (small.Listed (Join n)) made late in
      let parts = join_grows n bytes s.made h s.grows in
      let behind : Grows (with_letter bytes (copying bytes s.made)) last = earlier (small.Listed Part) (with_letter bytes (copying bytes s.made)) parts in
      let copied : Grows (copying bytes s.made) last = earlier_with bytes (copying bytes s.made) behind in
      let before : Grows (with_letter bytes s.made) last = earlier (small.Listed (Copy 0 0)) (with_letter bytes s.made) copied in
      record {
        made = s.made;
        graph = s.graph;
        first = λ e. texts.letters s.made (letter_of bytes s.made e before);
        copies = has_copy (with_letter bytes s.made) copied;
        second = λ e. texts.letters (copying bytes s.made) (letter_of bytes (copying bytes s.made) e behind);
        parts = has_part (with_letter bytes (copying bytes s.made)) parts;
      }

  join_has : (n : ℕ) (bytes : Bool) → item_of layout (word (n + 1)) ≡ item_type bytes → are_bytes (item_type bytes) ≡ bytes → (made : Found) → Asked (small.Listed (Join n)) made → HasJoin p layout numbers (raised_in world) core (are_bytes (item_of layout (word (n + 1)))) n (small_number (small.Listed (Join n)) made).0
  join_has n bytes h same made late = subst (λ c. HasJoin p layout numbers (raised_in world) core c n (small_number (small.Listed (Join n)) made).0) (sym (ap are_bytes h ∙ same)) (has_join n bytes h made late)

pub splits_have_theirs : SplitsHaveTheirs
splits_have_theirs p known world numbers first last has few core texts n made late = has_split p known world numbers first last has few core texts n made late

pub joins_have_theirs : JoinsHaveTheirs
joins_have_theirs p known world numbers first last has few core texts n (inl h) made late = join_has p known world numbers first last has few core texts n false h refl made late
joins_have_theirs p known world numbers first last has few core texts n (inr h) made late = join_has p known world numbers first last has few core texts n true h refl made late

-- ---- the empty string

abbrev cells : List CCell
cells = Const (const.Word (pos 0)) ∷ Braces [] ∷ []

const_is : (c : CConst) → cell_constants (Const c) ≡ c ∷ []
const_is c = ap cell_constants (sym (rolls-Const c)) ∙ fold-roll-CCell (List CConst) cell_step (CCell-F.Const c)

braces_are : (cs : List CCell) → cell_constants (Braces cs) ≡ joined (map cell_constants cs)
braces_are cs = ap cell_constants (sym (rolls-Braces cs)) ∙ fold-roll-CCell (List CConst) cell_step (CCell-F.Braces cs)

get_map : {A B : Type 0} (f : A → B) (xs : List A) (i : ℕ) (x : A) → slice_get xs i ≡ Some x → slice_get (map f xs) i ≡ Some (f x)
get_map f [] i x e = absurd (cc)
get_map f (y ∷ xs) zero x e = (let q : y ≡ x = cc in ap (λ z. Some (f z)) q)
get_map f (y ∷ xs) (suc i) x e = get_map f xs i x e

get_more : {A : Type 0} (xs more : List A) (i : ℕ) (x : A) → slice_get xs i ≡ Some x → slice_get (xs ++ more) i ≡ Some x
get_more [] more i x h = absurd (cc)
get_more (y ∷ xs) more zero x h = h
get_more (y ∷ xs) more (suc i) x h = get_more xs more i x h

block_is : (p : LlProgram) → HasText p → static_block (shapes_of p.structs) (record { kind = 0; cells = cells }) ≡ text_block []
block_is p h =
    let values : joined (map cell_constants cells) ≡ const.Word (pos 0) ∷ [] = ap (λ l. l ++ (cell_constants (Braces []) ++ [])) (const_is (const.Word (pos 0))) ∙ ap (λ l. const.Word (pos 0) ∷ (l ++ [])) (braces_are []) in
    ap (λ l. record { kind = 0; fields = take (shape_at (shapes_of p.structs) 0).size (map constant l); items = drop (shape_at (shapes_of p.structs) 0).size (map constant l) }) values
    ∙ ap (λ (s : StructShape). record { kind = 0; fields = take s.size (Word (pos 0) ∷ []); items = drop s.size (Word (pos 0) ∷ []) }) h

pub empty_strings_stand : EmptyStringsStand
unfolding empty pass
empty_strings_stand known classes layout p r h made late =
    let it = static_is 0 cells made (λ xs e. text_same xs (const.Word (pos 0)) [] e) in
    let there : slice_get (last_in known classes layout p r).statics it.number ≡ Some (record { kind = 0; cells = cells }) = ap (λ l. slice_get l it.number) (sym late.statics.1) ∙ get_more (empty made).1.statics late.statics.0 it.number _ it.there in
    ap (λ c. found [] (statics_of p) (constant c)) it.constant
    ∙ get_map (static_block (shapes_of p.structs)) p.statics it.number _ (ap (λ (q : LlProgram). slice_get q.statics it.number) r.written ∙ there) ∙ ap Some (block_is p h)
