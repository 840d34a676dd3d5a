-- The list of a site is made, once its parts are.
use Rattle.std.proofs.Common.{◌≡◌, ℕ, suc, ◌+◌, ◌&&◌, Bool, true, false, List, ◌∷◌, ◌++◌, length, map, slice_get, Option, Some, None, refl, sym, ap, ◌∙◌, subst, []}
use Rattle.ann_element.specs.declared.element.Element.{Element}
use Rattle.csub_tree.specs.Layout.{constant}
use Rattle.csub_tree.specs.declared.tree.CCell.{CCell}
use Rattle.csub_tree.specs.declared.tree.CCell.TheVariants as cell
use Rattle.csub_tree.specs.declared.tree.CConst.{CConst}
use Rattle.csub_tree.specs.declared.tree.CConst.TheVariants as low
use Rattle.csub_tree.specs.declared.tree.CStatic.{CStatic}
use Rattle.ll_code.specs.declared.program.LlType.{LlType}
use Rattle.ll_code.specs.declared.program.LlProgram.{LlProgram}
use Rattle.rpy_tree.specs.declared.program.Const.{Const}
use Rattle.rpy_tree.specs.declared.program.Site.{Site}
use Rattle.rpy_meaning.specs.Operations.{constant as meant_of, object_of}
use Rattle.rtyper_layout.specs.Dicts.{type_in}
use Rattle.rtyper_layout.specs.Types.{word, type_of, type_seen}
use Rattle.rtyper_data.specs.declared.found.Found.{Found}
use Rattle.rtyper_data.specs.Seen.{Around}
use Rattle.rtyper_op.specs.Constants.{constant_of}
use Rattle.rtyper_op.specs.Mapped.{own_static}
use Rattle.rtyper_op.specs.Prebuilt.{all_ready, is_ready, item_type, listed, array_cells, values_from, list_of}
use Rattle.growth_laws.specs.Growing.{Begins}
use Rattle.growth_laws.proofs.Fronts.{further, itself, last_one, stays}
use Rattle.growth_laws.proofs.Operating.{constant_of_grows}
use Rattle.lower_laws.proofs.Stayed.{field_is}
use Rattle.object_laws.specs.Done.{HasLayout}
use Rattle.object_laws.specs.Ghost.{Ghost, Use, Head, Array}
use Rattle.object_laws.specs.Known.{Known}
use Rattle.object_laws.specs.Values as high
use Rattle.object_laws.specs.Values.{EachHolds, Empty, More}
use Rattle.conversion_laws.proofs.Cells.{consts}
use Rattle.layout_laws.proofs.Places.{not_true}
use Rattle.start_laws.specs.Constants.{AreItems, IsSite, IsListOf}
use Rattle.start_laws.proofs.Serving.{same_kept, AreMade, Texts, are_made, array_static, constant_held, constant_keeps, flat_static, made_typed, texts_before}
use Rattle.start_laws.proofs.Building.{Built, ListBuilt, OfList, Stand, built_more, built_one, built_site, count, one_kept, stand_later, values_meant}

pub both_true : (a b : Bool) → (a && b) ≡ true → (a ≡ true) × (b ≡ true)
both_true true b h = (refl, h)
both_true false b h = absurd (not_true h)

module _ (p : LlProgram) (around : Around) (known : Known) (sites : List Site) (same : List ℕ) (has : HasLayout p around.layout) where
  abbrev pub StandSo : List CStatic → List (ℕ × ℕ) → (Ghost → Type 0) → Type 0
  StandSo statics made So = Stand p around known sites same has statics made So

  -- ---- parts

  -- what is there has the type of its place
  pub placed_type : {seen : Option Element} {c : Const} {made : List (ℕ × ℕ)} → AreMade around known sites same made seen c → type_in around.layout seen ≡ type_seen around.layout seen
  placed_type {seen = None} m = absurd (made_typed around known sites same m refl)
  placed_type {seen = Some e} m = field_is (type_of around.layout e) (made_typed around known sites same m)

  -- the items of a list, or the values of a dict
  pub record ItemsMade (seen : Option Element) (pairs : List (Const × Const)) (made : List (ℕ × ℕ)) (found : Found) (cells : List CCell × Found) : Type 0 where
    pub values : List CConst
    pub are : cells.0 ≡ consts values
    pub long : length values ≡ length pairs
    pub begins : Begins found.statics cells.1.statics
    pub kept : cells.1.prebuilt ≡ found.prebuilt
    pub holds : StandSo cells.1.statics made (λ g. EachHolds around.layout known g seen (map constant values) (values_meant p around known sites same has pairs))

  -- one value, of the type of its place
  pub one_begins : (c : Const) (t : LlType) (found : Found) → Begins found.statics (constant_of around c t found).1.statics
  one_begins c t found = (constant_of_grows around c t found).statics

  pub items_made : (seen : Option Element) (item : LlType) (pairs : List (Const × Const)) (start found : Found) → item ≡ type_in around.layout seen → AreItems around known sites same seen pairs → all_ready start pairs ≡ true → found.prebuilt ≡ start.prebuilt
      → ItemsMade seen pairs start.prebuilt found (values_from around item pairs found)
  items_made seen item [] start found typed are ready kept = record { values = []; are = refl; long = refl; begins = itself found.statics; kept = refl; holds = λ g texts homes. Empty }
  items_made seen item (q ∷ pairs) start found typed are ready kept =
      let both = both_true (is_ready start q.1) (all_ready start pairs) ready in
      let made : AreMade around known sites same start.prebuilt seen q.1 = are_made around known sites same start are.0 both.0 in
      let next : Found = (constant_of around q.1 item found).1 in
      let next_kept : next.prebuilt ≡ found.prebuilt = constant_keeps around q.1 item found in
      let rest = items_made seen item pairs start next typed are.1 both.1 (next_kept ∙ kept) in
      let is : constant_of around q.1 (type_seen around.layout seen) found ≡ constant_of around q.1 item found = ap (λ t. constant_of around q.1 t found) (sym (placed_type made) ∙ sym typed) in
      record {
        values = (constant_of around q.1 item found).0 ∷ rest.values;
        are = ap (λ cells. cell.Const (constant_of around q.1 item found).0 ∷ cells) rest.are;
        long = ap suc rest.long;
        begins = further found.statics next.statics _ (one_begins q.1 item found) rest.begins;
        kept = rest.kept ∙ next_kept;
        holds = λ g texts homes. More
            (subst (λ made. Texts p around.layout g made.1.statics → high.Holds around.layout known g seen (constant made.0) (meant_of known.program.sites q.1)) is (constant_held p around known sites same has g found made (same_kept start.prebuilt found.prebuilt kept) homes)
            (texts_before p around.layout g next.statics (values_from around item pairs next).1.statics rest.begins texts))
            (rest.holds g texts homes);
      }

  -- ---- the list

  pub list_built : (begin uses : List Use) (xs : List CStatic) (made : List (ℕ × ℕ)) (site n steps : ℕ) (pairs : List (Const × Const)) (values : List CConst) → Built p around known sites same has begin xs made uses
      → (it : IsSite around known sites same false site n) → it.of.prebuilt ≡ Some pairs → IsListOf around known sites same n steps pairs
      → StandSo xs made (λ g. EachHolds around.layout known g (known.items n) (map constant values) (values_meant p around known sites same has pairs))
      → (more : List Use) × Built p around known sites same has begin
      ((xs ++ array_static (word (n + 1)) (count (length pairs)) values ∷ []) ++ flat_static n (count (length pairs) ∷ low.Static (word (n + 1)) (length xs) ∷ []) ∷ [])
      (made ++ (site, length (xs ++ array_static (word (n + 1)) (count (length pairs)) values ∷ [])) ∷ []) more
  list_built begin uses xs made site n steps pairs values old it is of holds =
      let i : ℕ = object_of known.program.sites site in
      let array : CStatic = array_static (word (n + 1)) (count (length pairs)) values in
      let head : CStatic = flat_static n (count (length pairs) ∷ low.Static (word (n + 1)) (length xs) ∷ []) in
      let apart = has.lists_apart n of.struct in
      let one = built_one p around known sites same has array (Array i) apart.1 (λ b h. cc) old in
      let two = built_one p around known sites same has head (Head i) apart.0 (λ b h. cc) one in
      let ys : List CStatic = xs ++ array ∷ [] in
      let number : ℕ = length ys in
      let listed_so : ListBuilt p around known sites same has (ys ++ head ∷ []) (made ++ (site, number) ∷ []) ((uses ++ Array i ∷ []) ++ Head i ∷ []) site number n pairs = record {
        array = length xs;
        values = values;
        head_is = last_one ys head;
        array_is = stays ys (ys ++ head ∷ []) (length xs) array (head ∷ [], refl) (last_one xs array);
        head_use = ap (slice_get ((uses ++ Array i ∷ []) ++ Head i ∷ [])) (sym one.long) ∙ last_one (uses ++ Array i ∷ []) (Head i);
        array_use = stays (uses ++ Array i ∷ []) ((uses ++ Array i ∷ []) ++ Head i ∷ []) (length xs) (Array i) (Head i ∷ [], refl) (ap (slice_get (uses ++ Array i ∷ [])) (sym old.long) ∙ last_one uses (Array i));
        holds = stand_later p around known sites same has _ xs (ys ++ head ∷ []) made (made ++ (site, number) ∷ []) (further xs ys (ys ++ head ∷ []) (array ∷ [], refl) (head ∷ [], refl)) (one_kept made (site, number)) holds;
      } in
      ((uses ++ Array i ∷ []) ++ Head i ∷ [], built_site p around known sites same has site number (OfList n pairs it is listed_so) two)

  -- so many statics and sites have uses
  abbrev pub HasUses : List Use → Found → Type 0
  HasUses begin found = (uses : List Use) × Built p around known sites same has begin found.statics found.prebuilt uses

  pub listed_built : (begin : List Use) (site n steps : ℕ) (pairs : List (Const × Const)) (found : Found) → HasUses begin found
      → (it : IsSite around known sites same false site n) → it.of.prebuilt ≡ Some pairs → all_ready found pairs ≡ true → IsListOf around known sites same n steps pairs → item_type around (word (n + 1)) ≡ type_in around.layout (known.items n)
      → HasUses begin (listed around site n pairs found)
  unfolding listed array_cells
  listed_built begin site n steps pairs found old it is ready of typed =
      let item : LlType = item_type around (word (n + 1)) in
      let made = items_made (known.items n) item pairs found found typed of.items ready refl in
      let cells : List CCell × Found = values_from around item pairs found in
      let more = built_more p around known sites same has made.begins old.1 in
      let done = list_built begin _ cells.1.statics found.prebuilt site n steps pairs made.values more it is of made.holds in
      subst (λ items. HasUses begin (list_of around site n pairs (own_static (word (n + 1)) (cell.Const (count (length pairs)) ∷ cell.Braces items ∷ []) cells.1))) (sym made.are) (
        done.0,
        subst (λ ps. Built p around known sites same has begin
            ((cells.1.statics ++ array_static (word (n + 1)) (count (length pairs)) made.values ∷ []) ++ flat_static n (count (length pairs) ∷ low.Static (word (n + 1)) (length cells.1.statics) ∷ []) ∷ [])
            (ps ++ (site, length (cells.1.statics ++ array_static (word (n + 1)) (count (length pairs)) made.values ∷ [])) ∷ []) done.0) (sym made.kept) done.1,
      )
