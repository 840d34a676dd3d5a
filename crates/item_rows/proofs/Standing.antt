-- What conversions ask for stands, beside what operations on lists ask for.
use Rattle.std.proofs.Common.{◌≡◌, ℕ, Bool, true, false, List, [], ◌∷◌, ◌++◌, refl, sym, subst}
use Rattle.std.specs.Prelude.{◌==◌, ◌&&◌, if◌then◌else◌}
use Rattle.csub_tree.specs.State.{Value, Core}
use Rattle.ll_build.specs.declared.needs.Helper.TheVariants as helper
use Rattle.ll_code.specs.declared.program.LlType.{LlType}
use Rattle.ll_code.specs.declared.program.LlType.TheVariants as type
use Rattle.rpy_meaning.specs.declared.row.Covers.{Covers}
use Rattle.rpy_tree.specs.Value.{Heap}
use Rattle.rtyper_data.specs.declared.found.Found.{Found}
use Rattle.rtyper_data.specs.declared.small.Small.{Small}
use Rattle.rtyper_data.specs.declared.small.Small.TheVariants as small
use Rattle.rtyper_data.specs.Finding.{same_type}
use Rattle.rtyper_data.specs.Seen.{Around, Operand, Writing, kind_of, type_of}
use Rattle.rtyper_layout.specs.declared.layout.Layout.{Layout}
use Rattle.rtyper_layout.specs.Layout.{is_tuple}
use Rattle.rtyper_list.specs.Operands.{of_list_or_none}
use Rattle.lower_laws.specs.Asked.{Ask, Help, Make, all_asked, number_of}
use Rattle.object_laws.specs.Done.{AllAsked}
use Rattle.object_laws.specs.Ghost.{Ghost}
use Rattle.object_laws.specs.Represents.{Represents}
use Rattle.conversion_laws.specs.Asked.{asked_by, asks_for}
use Rattle.passing_laws.specs.Passing.{pass_asks}
use Rattle.passing_laws.specs.Standing.{HasOne, Stood, With}
use Rattle.list_conversion_laws.specs.Lists.{adding_asks}
use Rattle.list_laws.specs.Asked as lists
use Rattle.list_laws.specs.Lists.{if_missing, there_asks}
use Rattle.growth_laws.specs.Growing.{Grows}
use Rattle.rtyped_laws.specs.Having.{raised_in}
use Rattle.rtyped_laws.specs.Objects.{LooksForNoText}
use Rattle.rtyped_laws.proofs.Asking.{all_have}
use Rattle.helper_stands.proofs.Asks.{list_asks_stand}
use Rattle.typed_rows.specs.Programs.{IsTyped, Typed, first, last, layout, numbers, world}
use Rattle.ann_element.specs.declared.element.Element.{Element}
use Rattle.rtyper_layout.specs.Types.{type_of as type_of_element, type_seen}
use Rattle.value_rows.proofs.Asking.{helper_stands}
use Rattle.value_rows.proofs.Conversions.{conversions_stand}

-- what conversions ask for, or a small graph of this kind
abbrev pub Comes : (Small → Type 0) → Ask → Type 0
Comes Good (Help helper.StrOfChar) = Unit {0}
Comes Good (Make (small.Cast m n)) = Unit {0}
Comes Good (Make s) = Good s
Comes Good other = ⊥

abbrev pub AllCome : (Small → Type 0) → List Ask → Type 0
AllCome Good [] = Unit {0}
AllCome Good (a ∷ asks) = Comes Good a × AllCome Good asks

pub come_both : (Good : Small → Type 0) (asks more : List Ask) → AllCome Good asks → AllCome Good more → AllCome Good (asks ++ more)
come_both Good [] more h k = k
come_both Good (a ∷ asks) more h k = (h.0, come_both Good asks more h.1 k)

if_come : (Good : Small → Type 0) (b : Bool) (xs ys : List Ask) → AllCome Good xs → AllCome Good ys → AllCome Good (if b then xs else ys)
if_come Good true xs ys h k = h
if_come Good false xs ys h k = k

asked_come : (Good : Small → Type 0) (l : Layout) (s t : LlType) → AllCome Good (asked_by l s t)
asked_come Good l type.Char (type.Ptr n) = if_come Good (n == 0) (Help helper.StrOfChar ∷ []) [] (tt, tt) tt
asked_come Good l (type.Ptr m) (type.Ptr n) = if_come Good (is_tuple l m && is_tuple l n) (Make (small.Cast m n) ∷ []) [] (tt, tt) tt
asked_come Good l _ _ = tt

-- what is asked for to convert a value
pub asks_come : (Good : Small → Type 0) (l : Layout) (s t : LlType) → AllCome Good (asks_for l s t)
asks_come Good l s t = if_come Good (same_type s t) [] (asked_by l s t) tt (asked_come Good l s t)

-- and several
pub pass_come : (Good : Small → Type 0) (l : Layout) (args : List Operand) (es : List Element) → AllCome Good (pass_asks l args es)
pass_come Good l [] es = tt
pass_come Good l (a ∷ args) [] = tt
pass_come Good l (a ∷ args) (e ∷ es) = come_both Good (asks_for l (type_seen l a.element) (type_of_element l e)) (pass_asks l args es) (asks_come Good l (type_seen l a.element) (type_of_element l e)) (pass_come Good l args es)

-- ---- graphs of lists

abbrev pub OfListed : Small → Type 0
OfListed (small.Listed graph) = LooksForNoText graph
OfListed (small.Present t c) = Unit {0}
OfListed other = ⊥

missing_come : (b : Bool) (u : LlType) (c : Covers) → AllCome OfListed (if_missing b u c)
missing_come true u c = (tt, tt)
missing_come false u c = tt

pub there_come : (around : Around) (a : Operand) (c : Covers) → AllCome OfListed (there_asks around a c)
there_come around a c = missing_come (of_list_or_none (kind_of a)) (type_of around a) c

-- for the list, the conversion and what adds the item
pub adding_come : (t : Typed) (a b : Operand) (item : Element) (adds : Ask) (w : Writing) → Comes OfListed adds → AllCome OfListed (adding_asks (world t).around a b item adds w)
adding_come t a b item adds w h =
    come_both OfListed (there_asks (world t).around a w.found.covered) (asks_for (layout t) (type_of (world t).around b) (type_of_element (layout t) item) ++ adds ∷ []) (there_come (world t).around a w.found.covered)
    (come_both OfListed (asks_for (layout t) (type_of (world t).around b) (type_of_element (layout t) item)) (adds ∷ []) (asks_come OfListed (layout t) (type_of (world t).around b) (type_of_element (layout t) item)) (h, tt))

-- ---- that it stands

abbrev pub HasLists : Typed → HasOne
HasLists t = With (λ p. lists.Has p (layout t)) (layout t)

module _ (t : Typed) (typed : IsTyped t) where
  module _ (core : Core) (g : Ghost) (heap : Heap) (memory : Represents (layout t) t.seen g heap core.steps core.blocks core.statics) where
    letters : (found : Found) → Grows (number_of (Help helper.StrOfChar) found).1 (last t) → (Other : HasOne) → With Other (layout t) t.p (numbers t) t.seen.exception core (Help helper.StrOfChar) found
    letters found late Other = helper_stands t.known t.classes t.p t.made t.seen typed.small.graphs typed.small.structs typed.small.texts helper.StrOfChar found refl refl late g heap core memory

    casts : (m n : ℕ) (found : Found) → Grows (number_of (Make (small.Cast m n)) found).1 (last t) → (Other : HasOne) → With Other (layout t) t.p (numbers t) t.seen.exception core (Make (small.Cast m n)) found
    casts m n found late Other = (conversions_stand t typed (Make (small.Cast m n) ∷ []) found (tt, tt) late core g heap core.steps memory refl).0

    raised_is : raised_in (world t) ≡ t.seen.exception
    raised_is = λ i class. (sym (typed.classes.is_of.exception class)) i

    one_list : (a : Ask) (found : Found) → Comes OfListed a → Grows (first t) found → Grows (number_of a found).1 (last t) → HasLists t t.p (numbers t) t.seen.exception core a found
    one_list (Help helper.StrOfChar) found good early late = letters found late (λ p. lists.Has p (layout t))
    one_list (Make (small.Cast m n)) found good early late = casts m n found late (λ p. lists.Has p (layout t))
    one_list (Make (small.Listed graph)) found good early late =
        (subst (λ (raised : ℕ → Value). lists.HasAll t.p (layout t) (numbers t) raised core (Make (small.Listed graph) ∷ []) found) raised_is
        (list_asks_stand t.known t.classes t.p t.made t.seen typed.small.graphs typed.small.structs typed.small.texts (Make (small.Listed graph) ∷ []) found (good, tt) early late g heap core memory)).0
    one_list (Make (small.Present u c)) found good early late =
        (subst (λ (raised : ℕ → Value). lists.HasAll t.p (layout t) (numbers t) raised core (Make (small.Present u c) ∷ []) found) raised_is
        (list_asks_stand t.known t.classes t.p t.made t.seen typed.small.graphs typed.small.structs typed.small.texts (Make (small.Present u c) ∷ []) found (refl, tt) early late g heap core memory)).0
    one_list _ found good early late = absurd good

    one_alone : (Other : HasOne) (a : Ask) (found : Found) → Comes (λ s. ⊥) a → Grows (first t) found → Grows (number_of a found).1 (last t) → With Other (layout t) t.p (numbers t) t.seen.exception core a found
    one_alone Other (Help helper.StrOfChar) found good early late = letters found late Other
    one_alone Other (Make (small.Cast m n)) found good early late = casts m n found late Other
    one_alone Other _ found good early late = absurd good

  good_all : (Good : Small → Type 0) (asks : List Ask) (found : Found) → AllCome Good asks → AllAsked (λ a f. Comes Good a) asks found
  good_all Good [] found h = tt
  good_all Good (a ∷ asks) found h = (h.0, good_all Good asks (number_of a found).1 h.1)

  -- graphs of lists and conversions
  pub lists_stand : (asks : List Ask) (found : Found) → AllCome OfListed asks → Grows (first t) found → Grows (all_asked asks found) (last t) → Stood (layout t) t.seen (HasLists t t.p (numbers t) t.seen.exception) asks found
  lists_stand asks found come early late core g heap left memory same =
      all_have (first t) (last t) (λ a f. Comes OfListed a) (HasLists t t.p (numbers t) t.seen.exception core) (one_list core g heap (subst (λ (k : ℕ). Represents (layout t) t.seen g heap k core.blocks core.statics) same memory))
      asks found (good_all OfListed asks found come) early late

  -- conversions alone
  pub alone_stand : (Other : HasOne) (asks : List Ask) (found : Found) → AllCome (λ s. ⊥) asks → Grows (first t) found → Grows (all_asked asks found) (last t) → Stood (layout t) t.seen (With Other (layout t) t.p (numbers t) t.seen.exception) asks found
  alone_stand Other asks found come early late core g heap left memory same =
      all_have (first t) (last t) (λ a f. Comes (λ s. ⊥) a) (With Other (layout t) t.p (numbers t) t.seen.exception core) (one_alone core g heap (subst (λ (k : ℕ). Represents (layout t) t.seen g heap k core.blocks core.statics) same memory) Other)
      asks found (good_all (λ s. ⊥) asks found come) early late
