-- What an area gives out for one item, for some, and for all of a worklink.
use Rattle.std.proofs.Common.{◌≡◌, ℕ, ◌+◌, ◌<◌, ◌≤◌, Bool, true, false, nat_eq, ◌||◌, if◌then◌else◌, List, [], ◌∷◌, ◌++◌, length, take, get_or, Option, Some, None, option_map, ◌⊎◌, inl, inr, refl, sym, ap, ◌∙◌, subst, arith, length-append}
use Rattle.std.specs.List.{Contains, list_any}
use Rattle.std.specs.List.Sorted.{IsPermutation, IsNonDecreasingBy}
use Rattle.std.proofs.lemmas.Bool.{eqb-true, eq-eqb, or_left, or_right}
use Rattle.std.proofs.lemmas.List.{take_more, take_all}
use Rattle.std.proofs.lemmas.List.Elements.{Contains-append_left, Contains-push, Contains-push_cases}
use Rattle.std.proofs.lemmas.List.Sorted.{Contains-permutation, IsPermutation-sym}
use Rattle.adg_base.specs.Address.{Place}
use Rattle.adg_base.specs.Area.{Held}
use Rattle.adg_base.specs.declared.node.Item.{Item}
use Rattle.adg_base.specs.declared.node.Item.TheVariants as item
use Rattle.adg_journal.specs.Area.{held_of, places_in, places_of, Sets, IsArea}
use Rattle.worklinks.specs.declared.collected.Collected.{Collected as Gathered}
use Rattle.worklinks.specs.Gathered.{Gathered as Lists}
use Rattle.core_rules.specs.State.{is_item_of, is_change_of, has_txn, has_change}
use Rattle.core_rules.proofs.Lists.{each_append, is_true, not_both}
use Rattle.standby_core.specs.declared.link.Link.{Link as OwnLink}
use Rattle.standby_core.specs.Collecting.{is_let_go_by, GivesOut, Gathers, Takes, TakesArea}
use Rattle.standby_core.specs.Links.{HasGathered, IsReadyList, shard_of_place}

-- tests of a list
or_none : (b : Bool) → (b || false) ≡ b
or_none true = refl
or_none false = refl

or_first : (a b d : Bool) → (a || (b || d)) ≡ ((a || b) || d)
or_first true b d = refl
or_first false b d = refl

any_push : {X : Type 0} (p : X → Bool) (xs : List X) (x : X) → list_any p (xs ++ x ∷ []) ≡ (list_any p xs || p x)
any_push p [] x = or_none (p x)
any_push p (y ∷ xs) x = ap (λ b. p y || b) (any_push p xs x) ∙ or_first (p y) (list_any p xs) (p x)

pub any_more : {X : Type 0} (p : X → Bool) (xs : List X) (i : ℕ) (x : X) → i < length xs → x ≡ get_or xs i x → list_any p (take (i + 1) xs) ≡ (list_any p (take i xs) || p x)
any_more p xs i x within is =
    ap (list_any p) (take_more xs i x within ∙ ap (λ y. take i xs ++ y ∷ []) (sym is)) ∙ any_push p (take i xs) x

or_both : (a b c d : Bool) → ((a || b) || (c || d)) ≡ ((a || c) || (b || d))
or_both true b c d = refl
or_both false true true d = refl
or_both false true false d = refl
or_both false false c d = refl

any_both : {X : Type 0} (p q r : X → Bool) (xs : List X) → ((x : X) → p x ≡ (q x || r x)) → list_any p xs ≡ (list_any q xs || list_any r xs)
any_both p q r [] e = refl
any_both p q r (x ∷ xs) e =
    ap (λ b. b || list_any p xs) (e x) ∙ ap (λ b. (q x || r x) || b) (any_both p q r xs e) ∙ or_both (q x) (r x) (list_any q xs) (list_any r xs)

item_either : (t : ℕ) (x : Item) → is_item_of t x ≡ (is_change_of t x || is_let_go_by t x)
item_either t (item.Change txn) = sym (or_none (nat_eq txn t))
item_either t (item.Coarse txn) = refl
item_either t (item.Forget txn) = refl
item_either t (item.DropObject obj) = refl

-- of the transactions of some items, those whose changes are to be marked and the others are all
pub txn_either : (t : ℕ) (items : List Item) → has_txn t items ≡ (has_change t items || list_any (is_let_go_by t) items)
txn_either t items = any_both (is_item_of t) (is_change_of t) (is_let_go_by t) items (item_either t)

-- areas that give out
either_gone : (b d : Bool) (o : Option Held) → (if d then None else (if b then None else o)) ≡ (if b || d then None else o)
either_gone true true o = refl
either_gone true false o = refl
either_gone false true o = refl
either_gone false false o = refl

pub gives_none : (asked : ℕ → Bool) (area : List Held) → ((t : ℕ) → asked t ≡ false) → GivesOut asked area area
gives_none asked area never t = sym (ap (λ (b : Bool). if b then None else held_of area t) (never t))

pub gives_both : (p q : ℕ → Bool) (a0 a1 a2 : List Held) → GivesOut p a0 a1 → GivesOut q a1 a2 → GivesOut (λ t. p t || q t) a0 a2
gives_both p q a0 a1 a2 h k t = k t ∙ ap (λ (o : Option Held). if q t then None else o) (h t) ∙ either_gone (p t) (q t) (held_of a0 t)

pub gives_same : (p q : ℕ → Bool) (a0 a1 : List Held) → ((t : ℕ) → q t ≡ p t) → GivesOut p a0 a1 → GivesOut q a0 a1
gives_same p q a0 a1 e h t = h t ∙ ap (λ (b : Bool). if b then None else held_of a0 t) (sym (e t))

-- what is held of a transaction afterwards
pub gone_held : (p : ℕ → Bool) (a0 a1 : List Held) (t : ℕ) → GivesOut p a0 a1 → p t ≡ true → held_of a1 t ≡ None
gone_held p a0 a1 t h e = h t ∙ ap (λ (b : Bool). if b then None else held_of a0 t) e

pub kept_held : (p : ℕ → Bool) (a0 a1 : List Held) (t : ℕ) → GivesOut p a0 a1 → p t ≡ false → held_of a1 t ≡ held_of a0 t
kept_held p a0 a1 t h e = h t ∙ ap (λ (b : Bool). if b then None else held_of a0 t) e

pub gone_places : (p : ℕ → Bool) (a0 a1 : List Held) (t : ℕ) (a : Place) → GivesOut p a0 a1 → p t ≡ true → Contains (places_of a1 t) a → ⊥
gone_places p a0 a1 t a h e c =
    let k : Contains [] a = subst (λ o. Contains (places_in o) a) (gone_held p a0 a1 t h e) c in
    absurd (omega (arith, k.1))

pub kept_places : (p : ℕ → Bool) (a0 a1 : List Held) (t : ℕ) → GivesOut p a0 a1 → p t ≡ false → places_of a1 t ≡ places_of a0 t
kept_places p a0 a1 t h e = ap places_in (kept_held p a0 a1 t h e)

-- lists gained one after another
gathers_both : (p q : ℕ → Bool) (a0 a1 : List Held) (l0 l1 l2 : List Gathered) → GivesOut p a0 a1 → Gathers p a0 l0 l1 → Gathers q a1 l1 l2 → Gathers (λ t. p t || q t) a0 l0 l2
gathers_both p q a0 a1 l0 l1 l2 g h k = record {
  kept = λ t a x. k.kept t a (h.kept t a x);
  gained = λ t a e c. gained t a (is_true (p t)) e c;
  only = λ t a x. only t a (k.only t a x);
}
  where
    gained : (t : ℕ) (a : Place) → (p t ≡ true) ⊎ (p t ≡ false) → (p t || q t) ≡ true → Contains (places_of a0 t) a → HasGathered l2 t a
    gained t a (inl y) e c = k.kept t a (h.gained t a y c)
    gained t a (inr n) e c =
        k.gained t a (sym (ap (λ b. b || q t) n) ∙ e) (subst (λ (l : List Place). Contains l a) (sym (kept_places p a0 a1 t g n)) c)

    earlier : (t : ℕ) (a : Place) → HasGathered l0 t a ⊎ ((p t ≡ true) × Contains (places_of a0 t) a) → HasGathered l0 t a ⊎ (((p t || q t) ≡ true) × Contains (places_of a0 t) a)
    earlier t a (inl x) = inl x
    earlier t a (inr x) = inr (or_left (p t) (q t) x.0, x.1)

    later : (t : ℕ) (a : Place) → (p t ≡ true) ⊎ (p t ≡ false) → q t ≡ true → Contains (places_of a1 t) a → HasGathered l0 t a ⊎ (((p t || q t) ≡ true) × Contains (places_of a0 t) a)
    later t a (inl y) e c = absurd (gone_places p a0 a1 t a g y c)
    later t a (inr n) e c = inr (or_right (p t) (q t) e, subst (λ (l : List Place). Contains l a) (kept_places p a0 a1 t g n) c)

    only : (t : ℕ) (a : Place) → HasGathered l1 t a ⊎ ((q t ≡ true) × Contains (places_of a1 t) a) → HasGathered l0 t a ⊎ (((p t || q t) ≡ true) × Contains (places_of a0 t) a)
    only t a (inl x) = earlier t a (h.only t a x)
    only t a (inr x) = later t a (is_true (p t)) x.0 x.1

gathers_same : (p q : ℕ → Bool) (area : List Held) (l0 l1 : List Gathered) → ((t : ℕ) → q t ≡ p t) → Gathers p area l0 l1 → Gathers q area l0 l1
gathers_same p q area l0 l1 e h = record {
  kept = h.kept;
  gained = λ t a k c. h.gained t a (sym (e t) ∙ k) c;
  only = λ t a x. only t a (h.only t a x);
}
  where
    only : (t : ℕ) (a : Place) → HasGathered l0 t a ⊎ ((p t ≡ true) × Contains (places_of area t) a) → HasGathered l0 t a ⊎ ((q t ≡ true) × Contains (places_of area t) a)
    only t a (inl x) = inl x
    only t a (inr x) = inr (e t ∙ x.0, x.1)

-- nothing is taken where nothing is asked for
pub takes_none : (asked : ℕ → Bool) (most : ℕ) (area : List Held) (c : Lists) → IsArea area → ((t : ℕ) → asked t ≡ false) → Takes asked most area area c c
takes_none asked most area c is never = record {
  is_area = is;
  gives = gives_none asked area never;
  gathers = record { kept = λ t a x. x; gained = λ t a e x. absurd (not_both (asked t) e (never t)); only = λ t a x. inl x };
  room = refl;
  few = omega arith;
  ready = λ items sub x. x;
}

pub takes_both : (p q : ℕ → Bool) (m n : ℕ) (a0 a1 a2 : List Held) (c0 c1 c2 : Lists) → Takes p m a0 a1 c0 c1 → Takes q n a1 a2 c1 c2 → Takes (λ t. p t || q t) (m + n) a0 a2 c0 c2
takes_both p q m n a0 a1 a2 c0 c1 c2 h k = record {
  is_area = k.is_area;
  gives = gives_both p q a0 a1 a2 h.gives k.gives;
  gathers = gathers_both p q a0 a1 c0.lists c1.lists c2.lists h.gives h.gathers k.gathers;
  room = k.room ∙ h.room;
  few = let x : length c1.lists ≤ length c0.lists + m = h.few in let y : length c2.lists ≤ length c1.lists + n = k.few in omega arith;
  ready = λ items sub x. k.ready items (λ t e. sub t (or_right (p t) (q t) e)) (h.ready items (λ t e. sub t (or_left (p t) (q t) e)) x);
}

pub takes_same : (p q : ℕ → Bool) (m : ℕ) (a0 a1 : List Held) (c0 c1 : Lists) → ((t : ℕ) → q t ≡ p t) → Takes p m a0 a1 c0 c1 → Takes q m a0 a1 c0 c1
takes_same p q m a0 a1 c0 c1 e h = record {
  is_area = h.is_area;
  gives = gives_same p q a0 a1 e h.gives;
  gathers = gathers_same p q a0 c0.lists c1.lists e h.gathers;
  room = h.room;
  few = h.few;
  ready = λ items sub x. h.ready items (λ t k. sub t (e t ∙ k)) x;
}

-- one item more
pub takes_more : (items : List Item) (i : ℕ) (x : Item) (a0 a1 a2 : List Held) (c0 c1 c2 : Lists) → i < length items → x ≡ get_or items i x
    → Takes (λ t. has_change t (take i items)) i a0 a1 c0 c1 → Takes (λ t. is_change_of t x) 1 a1 a2 c1 c2 → Takes (λ t. has_change t (take (i + 1) items)) (i + 1) a0 a2 c0 c2
takes_more items i x a0 a1 a2 c0 c1 c2 within is h k =
    takes_same (λ t. has_change t (take i items) || is_change_of t x) (λ t. has_change t (take (i + 1) items)) (i + 1) a0 a2 c0 c2
    (λ t. any_more (is_change_of t) items i x within is)
    (takes_both (λ t. has_change t (take i items)) (λ t. is_change_of t x) i 1 a0 a1 a2 c0 c1 c2 h k)

pub gives_more : (items : List Item) (i : ℕ) (x : Item) (a0 a1 a2 : List Held) → i < length items → x ≡ get_or items i x
    → GivesOut (λ t. list_any (is_let_go_by t) (take i items)) a0 a1 → GivesOut (λ t. is_let_go_by t x) a1 a2 → GivesOut (λ t. list_any (is_let_go_by t) (take (i + 1) items)) a0 a2
gives_more items i x a0 a1 a2 within is h k =
    gives_same (λ t. list_any (is_let_go_by t) (take i items) || is_let_go_by t x) (λ t. list_any (is_let_go_by t) (take (i + 1) items)) a0 a2
    (λ t. any_more (is_let_go_by t) items i x within is)
    (gives_both (λ t. list_any (is_let_go_by t) (take i items)) (λ t. is_let_go_by t x) a0 a1 a2 h k)

-- an item whose changes are to be marked, where its transaction is held and where it is not
held_places : (o : Option Held) (addrs : List Place) → Some addrs ≡ option_map (λ (held : Held). held.places) o → places_in o ≡ addrs
held_places None addrs e = absurd cc
held_places (Some held) addrs e = cc

none_places : (o : Option Held) (a : Place) → None ≡ option_map (λ (held : Held). held.places) o → Contains (places_in o) a → ⊥
none_places None a e c = absurd (omega (arith, c.1))
none_places (Some held) a e c = absurd cc

pub takes_nothing_held : (txn : ℕ) (area area' : List Held) (c : Lists) → IsArea area' → Sets area area' txn None → None ≡ option_map (λ (held : Held). held.places) (held_of area txn)
    → Takes (λ t. is_change_of t (item.Change txn)) 1 area area' c c
takes_nothing_held txn area area' c is sets none = record {
  is_area = is;
  gives = sets;
  gathers = record {
    kept = λ t a x. x;
    gained = λ t a e x. absurd (none_places (held_of area txn) a none (subst (λ n. Contains (places_of area n) a) (sym (eqb-true txn t e)) x));
    only = λ t a x. inl x;
  };
  room = refl;
  few = omega arith;
  ready = λ items sub x. x;
}

pub takes_held : (txn : ℕ) (area area' : List Held) (c : Lists) (addrs sorted : List Place) → IsArea area' → Sets area area' txn None
    → Some addrs ≡ option_map (λ (held : Held). held.places) (held_of area txn) → IsPermutation addrs sorted → IsNonDecreasingBy shard_of_place sorted
    → Takes (λ t. is_change_of t (item.Change txn)) 1 area area' c (record c { lists = c.lists ++ (record { txn = txn; addrs = sorted }) ∷ [] })
takes_held txn area area' c addrs sorted is sets some same order = record {
  is_area = is;
  gives = sets;
  gathers = record {
    kept = λ t a x. record { entry = x.entry; within = Contains-append_left c.lists (list ∷ []) x.entry x.within; of = x.of; noted = x.noted };
    gained = λ t a e x. record {
      entry = list;
      within = Contains-push c.lists list;
      of = eqb-true txn t e;
      noted = Contains-permutation addrs sorted a same (subst (λ (l : List Place). Contains l a) there (subst (λ n. Contains (places_of area n) a) (sym (eqb-true txn t e)) x));
    };
    only = λ t a x. only t a x (Contains-push_cases c.lists list x.entry x.within);
  };
  room = refl;
  few = let l = length-append c.lists (list ∷ []) in omega arith;
  ready = λ items sub x. each_append (IsReadyList items) c.lists (list ∷ []) x (record { change = sub txn (eq-eqb txn txn refl); order = order }, tt);
}
  where
    list : Gathered
    list = record { txn = txn; addrs = sorted }

    there : places_of area txn ≡ addrs
    there = held_places (held_of area txn) addrs some

    only : (t : ℕ) (a : Place) → (x : HasGathered (c.lists ++ list ∷ []) t a) → Contains c.lists x.entry ⊎ (list ≡ x.entry) → HasGathered c.lists t a ⊎ ((nat_eq txn t ≡ true) × Contains (places_of area t) a)
    only t a x (inl w) = inl (record { entry = x.entry; within = w; of = x.of; noted = x.noted })
    only t a x (inr e) =
        let of : txn ≡ t = ap (λ (y : Gathered). y.txn) e ∙ x.of in
        let noted : Contains sorted a = subst (λ (y : Gathered). Contains y.addrs a) (sym e) x.noted in
        let held : Contains (places_of area txn) a = subst (λ (l : List Place). Contains l a) (sym there) (Contains-permutation sorted addrs a (IsPermutation-sym addrs sorted same) noted) in
        inr (eq-eqb txn t of, subst (λ n. Contains (places_of area n) a) of held)

-- the same, as a call tells it
pub held_taken : (x : Item) (txn : ℕ) (area area' : List Held) (c d : Lists) (addrs sorted : List Place) → x ≡ item.Change txn → IsArea area' → Sets area area' txn None
    → Some addrs ≡ option_map (λ (held : Held). held.places) (held_of area txn) → IsPermutation addrs sorted → IsNonDecreasingBy shard_of_place sorted
    → d ≡ record c { lists = c.lists ++ (record { txn = txn; addrs = sorted }) ∷ [] } → Takes (λ t. is_change_of t x) 1 area area' c d
held_taken x txn area area' c d addrs sorted of is sets some same order pushed =
    subst (λ y. Takes (λ t. is_change_of t y) 1 area area' c d) (sym of)
    (subst (Takes (λ t. is_change_of t (item.Change txn)) 1 area area' c) (sym pushed) (takes_held txn area area' c addrs sorted is sets some same order))

-- all items
pub takes_all : (items : List Item) (i : ℕ) (a0 a1 : List Held) (c0 c1 : Lists) → i ≡ length items → Takes (λ t. has_change t (take i items)) i a0 a1 c0 c1 → Takes (λ t. has_change t items) (length items) a0 a1 c0 c1
takes_all items i a0 a1 c0 c1 e h =
    let all : take i items ≡ items = take_all i items (omega arith) in
    subst (λ l. Takes (λ t. has_change t l) (length items) a0 a1 c0 c1) all (subst (λ n. Takes (λ t. has_change t (take i items)) n a0 a1 c0 c1) e h)

-- a worklink takes what its items ask for, and the area lets go the rest
pub link_takes : (old new : OwnLink) (l m : List Item) (a0 a1 a2 : List Held) → l ≡ old.items → m ≡ old.items → Takes (λ t. has_change t l) (length l) a0 a1 old.collected new.collected
    → IsArea a2 → GivesOut (λ t. list_any (is_let_go_by t) m) a1 a2 → new.items ≡ old.items → new.stage ≡ old.stage → TakesArea a0 a2 old new
link_takes old new l m a0 a1 a2 el em h is g items stage = record {
  items = items;
  stage = stage;
  is_area = is;
  gives = gives_same (λ t. has_change t old.items || list_any (is_let_go_by t) old.items) (λ t. has_txn t old.items) a0 a2 (λ t. txn_either t old.items)
      (gives_both (λ t. has_change t old.items) (λ t. list_any (is_let_go_by t) old.items) a0 a1 a2 takes.gives (subst (λ k. GivesOut (λ t. list_any (is_let_go_by t) k) a1 a2) em g));
  gathers = takes.gathers;
  room = takes.room;
  few = takes.few;
  lists = takes.ready old.items (λ t e. e);
}
  where
    takes : Takes (λ t. has_change t old.items) (length old.items) a0 a1 old.collected new.collected
    takes = subst (λ k. Takes (λ t. has_change t k) (length k) a0 a1 old.collected new.collected) el h
