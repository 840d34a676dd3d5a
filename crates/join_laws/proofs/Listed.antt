-- The items of a list are strings, or bytes, where its values are.
use Rattle.std.proofs.Common.{◌≡◌, ℕ, suc, Bool, true, false, List, [], ◌∷◌, length, Option, Some, None, refl, sym, ap, ◌∙◌, subst}
use Rattle.ann_element.specs.declared.element.Element.{Element}
use Rattle.csub_tree.specs.State.{Value, Block, Core}
use Rattle.ll_code.specs.declared.program.LlProgram.{LlProgram}
use Rattle.ll_code.specs.declared.program.LlType.{LlType}
use Rattle.ll_build.specs.declared.needs.Numbers.{Numbers}
use Rattle.rpy_tree.specs.Value.{Value as Meant, Heap, Text}
use Rattle.rpy_meaning.specs.Methods.{texts_of, with_first}
use Rattle.rtyper_layout.specs.declared.layout.Layout.{Layout}
use Rattle.rtyper_layout.specs.Kinds.{kind_seen}
use Rattle.rtyper_layout.specs.Types.{type_seen}
use Rattle.lower_laws.specs.Values.{is_plain}
use Rattle.object_laws.specs.Ghost.{Ghost}
use Rattle.object_laws.specs.Known.{Known}
use Rattle.object_laws.specs.Represents.{Represents}
use Rattle.object_laws.specs.Values.{EachHolds, Empty, More, Stands, text, byte, word, flag, missing}
use Rattle.object_laws.proofs.Valued.{plain_stands}
use Rattle.split_laws.proofs.Moving.{helper_moves, part_moves}
use Rattle.join_laws.specs.Asked.{HasJoin}
use Rattle.join_laws.proofs.Graph.{item_type}
use Rattle.join_laws.proofs.Items.{AreItems, IsItem}

first_of : (t : List ℕ) (o : Option (List (List ℕ))) (texts : List (List ℕ)) → with_first t o ≡ Some texts → (rest : List (List ℕ)) × (o ≡ Some rest) × (texts ≡ t ∷ rest)
first_of t None texts h = absurd (cc)
first_of t (Some rest) texts h = (let q : t ∷ rest ≡ texts = cc in (rest, refl, sym q))

pub texts_long : (vs : List Meant) (texts : List (List ℕ)) → texts_of vs ≡ Some texts → length vs ≡ length texts
texts_long [] [] h = refl
texts_long [] (t ∷ texts) h = absurd (cc)
texts_long (Text t ∷ vs) texts h = (let f = first_of t (texts_of vs) texts h in ap suc (texts_long vs f.0 f.1) ∙ sym (ap length f.2))
texts_long (v ∷ vs) texts h = absurd (cc)

module _ {layout : Layout} {known : Known} {g : Ghost} {heap : Heap} {left : ℕ} {blocks : List (Option Block)} {statics : List Block} (r : Represents layout known g heap left blocks statics) (item : Element) (plain : is_plain (kind_seen (Some item)) ≡ true) where
  one : (bytes : Bool) (ty : LlType) → ty ≡ item_type bytes → (z : Value) (v : Meant) (t : List ℕ) → v ≡ Text t → Stands g ty z v → IsItem bytes blocks statics z t
  one false ty h z v t e (text y all is) = (let q : all ≡ t = cc in subst (λ l. IsItem false blocks statics y l) q (record { is = r.stays y _ is.is; short = is.short; small = is.small }))
  one true ty h z v t e (byte b small) = (let q : b ∷ [] ≡ t = cc in (b, refl, sym q, small))
  one false ty h z v t e (word y fits) = absurd (cc)
  one false ty h z v t e (flag c) = absurd (cc)
  one false ty h z v t e (byte b small) = absurd (cc)
  one false ty h z v t e missing = absurd (cc)
  one true ty h z v t e (word y fits) = absurd (cc)
  one true ty h z v t e (flag c) = absurd (cc)
  one true ty h z v t e (text y all is) = absurd (cc)
  one true ty h z v t e missing = absurd (cc)

  pub items_are : (bytes : Bool) → type_seen layout (Some item) ≡ item_type bytes → {zs : List Value} {vs : List Meant} (texts : List (List ℕ)) → EachHolds layout known g (Some item) zs vs → texts_of vs ≡ Some texts → AreItems bytes blocks statics zs texts
  items_are bytes h [] Empty e = tt
  items_are bytes h (t ∷ texts) Empty e = absurd (cc)
  items_are bytes h texts (More {x = z} {xs = zs} {v = Text t} {vs = vs} held each) e =
      let f = first_of t (texts_of vs) texts e in
      subst (λ l. AreItems bytes blocks statics (z ∷ zs) l) (sym f.2) (one bytes (type_seen layout (Some item)) h z (Text t) t refl (plain_stands plain held), items_are bytes h f.0 each f.1)
  items_are bytes h texts (More {v = v} held each) e = absurd (cc)

pub join_moves : (p : LlProgram) (layout : Layout) (numbers : Numbers) (raised : ℕ → Value) (core mid : Core) → mid.statics ≡ core.statics → mid.steps ≡ core.steps → (bytes : Bool) (n f : ℕ) → HasJoin p layout numbers raised core bytes n f → HasJoin p layout numbers raised mid bytes n f
join_moves p layout numbers raised core mid statics steps bytes n f has = record {
  made = has.made;
  graph = has.graph;
  first = λ h. helper_moves p numbers _ _ core mid statics steps (has.first h);
  copies = has.copies;
  second = λ h. helper_moves p numbers _ _ core mid statics steps (has.second h);
  parts = part_moves p layout numbers raised core mid statics steps _ has.parts;
}
