-- Lists of seats, place by place.
use Rattle.std.proofs.Common.{◌≡◌, ◌∙◌, ℕ, zero, suc, ◌+◌, ◌<◌, ◌≤◌, List, [], ◌∷◌, ◌++◌, Bool, true, false, refl, sym, subst, ap, append_assoc, arith, get_or, length, map, set}
use Rattle.std.proofs.lemmas.List.Elements.{All-tail}
use borrow.Author.Tests.{lt-ltb}
use Rattle.std.specs.Prelude.{All, Option, None, Some, if◌then◌else◌, is_some, nat_lt, not, position}
use Rattle.std.specs.List.{position_or_len}
use Rattle.sut_review.specs.Seats.{SeatFacts, dismissed_at, ended, stands_at}

-- a function of seats, whose type is that of this one
abbrev pub like : {A : Type 0} → A → (A → SeatFacts) → A → SeatFacts
like seat f = f

-- each seat of a list became what g gives of it
pub each-seat : {A : Type 0} (after before : A → SeatFacts) (g : SeatFacts → SeatFacts) (xs ys : List A) → length ys ≡ length xs → ((k : ℕ) (d : A) → k < length xs → after (get_or ys k d) ≡ g (before (get_or xs k d))) → map after ys ≡ map g (map before xs)
each-seat after before g [] [] e h = refl
each-seat after before g (x ∷ xs) [] e h = absurd (omega arith)
each-seat after before g [] (y ∷ ys) e h = absurd (omega arith)
each-seat after before g (x ∷ xs) (y ∷ ys) e h =
    let first : after y ≡ g (before x) = h 0 x (omega arith) in
    let rest : map after ys ≡ map g (map before xs) = each-seat after before g xs ys (omega arith) (λ k d l. h (suc k) d (omega arith)) in
    λ i. first i ∷ rest i

-- a place in the list has its element, whatever stands for the others
any-default : {A : Type 0} (xs : List A) (k : ℕ) (d e : A) → k < length xs → get_or xs k d ≡ get_or xs k e
any-default [] k d e l = absurd (omega arith)
any-default (x ∷ xs) zero d e l = refl
any-default (x ∷ xs) (suc k) d e l = any-default xs k d e (omega arith)

before-set : {A : Type 0} (f : A → SeatFacts) (want : ℕ → A → SeatFacts) (xs : List A) (i : ℕ) (y : A) → i < length xs → ((d : A) → f y ≡ want i d) → ((k : ℕ) (d : A) → k < i → f (get_or xs k d) ≡ want k d) → (k : ℕ) (d : A) → k < i + 1 → f (get_or (set xs i y) k d) ≡ want k d
before-set f want [] i y l here before k d m = absurd (omega arith)
before-set f want (x ∷ xs) zero y l here before zero d m = here d
before-set f want (x ∷ xs) zero y l here before (suc k) d m = absurd (omega arith)
before-set f want (x ∷ xs) (suc i) y l here before zero d m = before 0 d (omega arith)
before-set f want (x ∷ xs) (suc i) y l here before (suc k) d m =
    before-set f (λ j e. want (suc j) e) xs i y (omega arith) here (λ j e n. before (suc j) e (omega arith)) k d (omega arith)

-- with the seat at one more place changed, each seat so far became what g gives of it
pub one-more : {A : Type 0} (after before : A → SeatFacts) (g : SeatFacts → SeatFacts) (xs ys : List A) (i : ℕ) (was is : A) → i < length ys → was ≡ get_or ys i was → ((d : A) → get_or ys i d ≡ get_or xs i d) → after is ≡ g (before was) → ((k : ℕ) (d : A) → k < i → after (get_or ys k d) ≡ g (before (get_or xs k d))) → (k : ℕ) (d : A) → k < i + 1 → after (get_or (set ys i is) k d) ≡ g (before (get_or xs k d))
one-more after before g xs ys i was is l there same e earlier =
    before-set after (λ k d. g (before (get_or xs k d))) ys i is l (λ d. e ∙ ap (λ s. g (before s)) (there ∙ any-default ys i was d l ∙ same d)) earlier

-- the seats after a place that was changed are as they were
pub after-set : {A : Type 0} (xs : List A) (i : ℕ) (y : A) (k : ℕ) (d : A) → i < k → get_or (set xs i y) k d ≡ get_or xs k d
after-set [] i y k d l = refl
after-set (x ∷ xs) zero y zero d l = absurd (omega arith)
after-set (x ∷ xs) zero y (suc k) d l = refl
after-set (x ∷ xs) (suc i) y zero d l = refl
after-set (x ∷ xs) (suc i) y (suc k) d l = after-set xs i y k d (omega arith)

changed : {A : Type 0} (f : A → SeatFacts) (xs : List A) (k : ℕ) (y d : A) → k < length xs → f y ≡ ended (f (get_or xs k d)) → map f (set xs k y) ≡ dismissed_at k (map f xs)
changed f [] k y d l e = absurd (omega arith)
changed f (x ∷ xs) zero y d l e = ap (λ s. s ∷ map f xs) e
changed f (x ∷ xs) (suc k) y d l e = ap (λ rest. f x ∷ rest) (changed f xs k y d (omega arith) e)

-- the seat that was at a place is changed to one that stands no more
pub dismissed-set : {A : Type 0} (f : A → SeatFacts) (xs : List A) (k : ℕ) (y was : A) → k < length xs → was ≡ get_or xs k was → f y ≡ ended (f was) → map f (set xs k y) ≡ dismissed_at k (map f xs)
dismissed-set f xs k y was l there e = changed f xs k y was l (e ∙ ap (λ s. ended (f s)) there)

past : (seats : List SeatFacts) (k : ℕ) → length seats ≤ k → dismissed_at k seats ≡ seats
past [] k l = refl
past (seat ∷ seats) zero l = absurd (omega arith)
past (seat ∷ seats) (suc k) l = ap (λ rest. seat ∷ rest) (past seats k (omega arith))

none-past : (seats : List SeatFacts) (k : ℕ) → length seats ≤ k → stands_at k seats ≡ false
none-past [] k l = refl
none-past (seat ∷ seats) zero l = absurd (omega arith)
none-past (seat ∷ seats) (suc k) l = none-past seats k (omega arith)

same-length : {A : Type 0} (f : A → SeatFacts) (xs : List A) → length xs ≡ length (map f xs)
same-length f [] = refl
same-length f (x ∷ xs) = ap suc (same-length f xs)

-- past the last seat nothing changes, and none stands
pub dismissed-past : {A : Type 0} (f : A → SeatFacts) (k : ℕ) (xs : List A) → length xs ≤ k → dismissed_at k (map f xs) ≡ map f xs
dismissed-past f k xs l = past (map f xs) k (subst (λ n. n ≤ k) (same-length f xs) l)

pub stands-past : {A : Type 0} (f : A → SeatFacts) (k : ℕ) (xs : List A) → length xs ≤ k → stands_at k (map f xs) ≡ false
stands-past f k xs l = none-past (map f xs) k (subst (λ n. n ≤ k) (same-length f xs) l)

standing-at : {A : Type 0} (f : A → SeatFacts) (xs : List A) (k : ℕ) (d : A) → k < length xs → is_some (f (get_or xs k d)).standing ≡ stands_at k (map f xs)
standing-at f [] k d l = absurd (omega arith)
standing-at f (x ∷ xs) zero d l = refl
standing-at f (x ∷ xs) (suc k) d l = standing-at f xs k d (omega arith)

pub stands-there : {A : Type 0} (f : A → SeatFacts) (xs : List A) (k : ℕ) (was : A) (stood : Bool) → k < length xs → was ≡ get_or xs k was → stood ≡ is_some (f was).standing → stood ≡ stands_at k (map f xs)
stands-there f xs k was stood l there e = e ∙ ap (λ s. is_some (f s).standing) there ∙ standing-at f xs k was l

-- ---- the first that passes a test

positions : {A : Type 0} (p : SeatFacts → Bool) (f : A → SeatFacts) (xs : List A) → position_or_len (λ x. p (f x)) xs ≡ position_or_len p (map f xs)
positions p f [] = refl
positions p f (x ∷ xs) = ap (λ n. if not (p (f x)) then 1 + n else 0) (positions p f xs)

pub position-map : {A : Type 0} (p : SeatFacts → Bool) (f : A → SeatFacts) (xs : List A) (found : Option ℕ) → found ≡ position (λ x. p (f x)) xs → found ≡ position p (map f xs)
position-map p f xs found e =
    e ∙ (λ i. if nat_lt (positions p f xs i) (same-length f xs i) then Some (positions p f xs i) else None)

stops-at : {A : Type 0} (q : A → Bool) (xs : List A) (k : ℕ) (d : A) → k < length xs → q (get_or xs k d) ≡ true → ((j : ℕ) → j < k → q (get_or xs j d) ≡ false) → position_or_len q xs ≡ k
stops-at q [] k d l here before = absurd (omega arith)
stops-at q (x ∷ xs) zero d l here before = ap (λ b. if not b then 1 + position_or_len q xs else 0) here
stops-at q (x ∷ xs) (suc k) d l here before =
    let first : q x ≡ false = before 0 (omega arith) in
    let rest : position_or_len q xs ≡ k = stops-at q xs k d (omega arith) here (λ j m. before (suc j) (omega arith)) in
    ap (λ b. if not b then 1 + position_or_len q xs else 0) first ∙ omega (arith, rest)

runs-out : {A : Type 0} (q : A → Bool) (xs : List A) → ((k : ℕ) (d : A) → k < length xs → q (get_or xs k d) ≡ false) → position_or_len q xs ≡ length xs
runs-out q [] none = refl
runs-out q (x ∷ xs) none =
    let first : q x ≡ false = none 0 x (omega arith) in
    let rest : position_or_len q xs ≡ length xs = runs-out q xs (λ k d l. none (suc k) d (omega arith)) in
    ap (λ b. if not b then 1 + position_or_len q xs else 0) first ∙ omega (arith, rest)

past-end : (n : ℕ) (x : Option ℕ) → (if nat_lt n n then x else None) ≡ None
past-end n x = grind arith

-- the first seat that passes a test, where those before it don't
pub first-passing : {A : Type 0} (p : SeatFacts → Bool) (f : A → SeatFacts) (given xs : List A) (k : ℕ) (was : A) (answer : Bool) → given ≡ xs → k < length given → was ≡ get_or given k was → answer ≡ p (f was) → answer ≡ true → ((j : ℕ) (d : A) → j < k → p (f (get_or xs j d)) ≡ false) → Some k ≡ position p (map f xs)
first-passing p f given xs k was answer same l there is holds before =
    let below : k < length xs = subst (λ (ys : List _). k < length ys) same l in
    let here : p (f (get_or xs k was)) ≡ true = ap (λ s. p (f s)) (sym (there ∙ ap (λ ys. get_or ys k was) same)) ∙ sym is ∙ holds in
    let at = stops-at (λ x. p (f x)) xs k was below here (λ j m. before j was m) in
    position-map p f xs (Some k) (sym ((λ i. if nat_lt (at i) (length xs) then Some (at i) else None) ∙ ap (λ b. if b then Some k else None) (lt-ltb k (length xs) below)))

pub none-passing : {A : Type 0} (p : SeatFacts → Bool) (f : A → SeatFacts) (xs : List A) → ((k : ℕ) (d : A) → k < length xs → p (f (get_or xs k d)) ≡ false) → None ≡ position p (map f xs)
none-passing p f xs none =
    let at = runs-out (λ x. p (f x)) xs none in
    position-map p f xs None (sym ((λ i. if nat_lt (at i) (length xs) then Some (at i) else None) ∙ past-end (length xs) (Some (length xs))))

-- ---- handed in

seats-append : {A : Type 0} (f : A → SeatFacts) (xs ys : List A) → map f (xs ++ ys) ≡ map f xs ++ map f ys
seats-append f [] ys = refl
seats-append f (x ∷ xs) ys = ap (λ rest. f x ∷ rest) (seats-append f xs ys)

-- the first of those that are left gets its seat
pub seated : {A B : Type 0} (f : A → SeatFacts) (new : B → SeatFacts) (old made : List A) (seat : A) (left rest : List B) (object : B) (all : List SeatFacts) → left ≡ object ∷ rest → f seat ≡ new object → map f old ++ map new left ≡ all → made ≡ old ++ seat ∷ [] → map f made ++ map new rest ≡ all
seated f new old made seat left rest object all first is before pushed =
    ap (λ xs. map f xs ++ map new rest) pushed ∙ ap (λ s. s ++ map new rest) (seats-append f old (seat ∷ []))
    ∙ ap (λ s. (map f old ++ s ∷ []) ++ map new rest) is ∙ append_assoc (map f old) (new object ∷ []) (map new rest)
    ∙ ap (λ xs. map f old ++ map new xs) (sym first) ∙ before

pub rest-all : {B : Type 0} (P : B → Type 0) (left rest : List B) (object : B) → left ≡ object ∷ rest → All P left → All P rest
rest-all P left rest object first a = All-tail P object rest (subst (All P) first a)
