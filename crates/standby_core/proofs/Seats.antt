-- What stands at a session's place shows what the state has there.
use Rattle.std.proofs.Common.{◌≡◌, ℕ, List, refl, subst}
use Rattle.core_rules.specs.State.{Session, Population, Scan, At}
use Rattle.core_rules.specs.State as rules
use Rattle.standby_core.specs.declared.session.Session.{Session as OwnSession}
use Rattle.standby_core.specs.declared.session.Session.TheVariants.{Free, Populating, Scanning}
use Rattle.standby_core.specs.declared.session.Population.{Population as OwnPopulation}
use Rattle.standby_core.specs.declared.session.Scan.{Scan as OwnScan}
use Rattle.standby_core.specs.Each.{EachAt}
use Rattle.standby_core.specs.Parts.{ShowsSession, ShowsPopulation, ShowsScan}
use Rattle.standby_core.proofs.Each.{each_left, each_right}

abbrev pub ShowsSeats : List OwnSession → List Session → Type 0
ShowsSeats = EachAt (λ n. ShowsSession)

-- a free session
is_free : (s : Session) → ShowsSession Free s → s ≡ rules.Free
is_free rules.Free h = refl
is_free (rules.Populating p) h = absurd h
is_free (rules.Scanning s) h = absurd h

shows_free : (x : OwnSession) → ShowsSession x rules.Free → x ≡ Free
shows_free Free h = refl
shows_free (Populating x) h = absurd h
shows_free (Scanning x) h = absurd h

pub free_shown : (xs : List OwnSession) (ss : List Session) (n : ℕ) → ShowsSeats xs ss → At xs n Free → At ss n rules.Free
free_shown xs ss n h at = let r = each_right (λ n. ShowsSession) xs ss h n Free at in subst (At ss n) (is_free r.0 r.2) r.1

pub free_back : (xs : List OwnSession) (ss : List Session) (n : ℕ) → ShowsSeats xs ss → At ss n rules.Free → At xs n Free
free_back xs ss n h at = let r = each_left (λ n. ShowsSession) xs ss h n rules.Free at in subst (At xs n) (shows_free r.0 r.2) r.1

-- a population
is_populating : (x : OwnPopulation) (s : Session) → ShowsSession (Populating x) s → (p : Population) × (s ≡ rules.Populating p) × ShowsPopulation x p
is_populating x rules.Free h = absurd h
is_populating x (rules.Populating p) h = (p, refl, h)
is_populating x (rules.Scanning s) h = absurd h

shows_populating : (x : OwnSession) (p : Population) → ShowsSession x (rules.Populating p) → (y : OwnPopulation) × (x ≡ Populating y) × ShowsPopulation y p
shows_populating Free p h = absurd h
shows_populating (Populating x) p h = (x, refl, h)
shows_populating (Scanning x) p h = absurd h

pub populating_shown : (xs : List OwnSession) (ss : List Session) (n : ℕ) (x : OwnPopulation) → ShowsSeats xs ss → At xs n (Populating x) → (p : Population) × At ss n (rules.Populating p) × ShowsPopulation x p
populating_shown xs ss n x h at =
    let r = each_right (λ n. ShowsSession) xs ss h n (Populating x) at in
    let p = is_populating x r.0 r.2 in
    (p.0, subst (At ss n) p.1 r.1, p.2)

pub populating_back : (xs : List OwnSession) (ss : List Session) (n : ℕ) (p : Population) → ShowsSeats xs ss → At ss n (rules.Populating p) → (x : OwnPopulation) × At xs n (Populating x) × ShowsPopulation x p
populating_back xs ss n p h at =
    let r = each_left (λ n. ShowsSession) xs ss h n (rules.Populating p) at in
    let x = shows_populating r.0 p r.2 in
    (x.0, subst (At xs n) x.1 r.1, x.2)

-- a scan
is_scanning : (x : OwnScan) (s : Session) → ShowsSession (Scanning x) s → (p : Scan) × (s ≡ rules.Scanning p) × ShowsScan x p
is_scanning x rules.Free h = absurd h
is_scanning x (rules.Populating p) h = absurd h
is_scanning x (rules.Scanning s) h = (s, refl, h)

shows_scanning : (x : OwnSession) (s : Scan) → ShowsSession x (rules.Scanning s) → (y : OwnScan) × (x ≡ Scanning y) × ShowsScan y s
shows_scanning Free s h = absurd h
shows_scanning (Populating x) s h = absurd h
shows_scanning (Scanning x) s h = (x, refl, h)

pub scanning_shown : (xs : List OwnSession) (ss : List Session) (n : ℕ) (x : OwnScan) → ShowsSeats xs ss → At xs n (Scanning x) → (s : Scan) × At ss n (rules.Scanning s) × ShowsScan x s
scanning_shown xs ss n x h at =
    let r = each_right (λ n. ShowsSession) xs ss h n (Scanning x) at in
    let p = is_scanning x r.0 r.2 in
    (p.0, subst (At ss n) p.1 r.1, p.2)

pub scanning_back : (xs : List OwnSession) (ss : List Session) (n : ℕ) (s : Scan) → ShowsSeats xs ss → At ss n (rules.Scanning s) → (x : OwnScan) × At xs n (Scanning x) × ShowsScan x s
scanning_back xs ss n s h at =
    let r = each_left (λ n. ShowsSession) xs ss h n (rules.Scanning s) at in
    let x = shows_scanning r.0 s r.2 in
    (x.0, subst (At xs n) x.1 r.1, x.2)
