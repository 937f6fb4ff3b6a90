-- The words of a listing, letter by letter in ASCII.
use Rattle.std.specs.Prelude.{ℕ, List, [], ◌∷◌}

abbrev a : ℕ
a = 97

abbrev b : ℕ
b = 98

abbrev c : ℕ
c = 99

abbrev d : ℕ
d = 100

abbrev e : ℕ
e = 101

abbrev f : ℕ
f = 102

abbrev g : ℕ
g = 103

abbrev i : ℕ
i = 105

abbrev k : ℕ
k = 107

abbrev l : ℕ
l = 108

abbrev m : ℕ
m = 109

abbrev n : ℕ
n = 110

abbrev o : ℕ
o = 111

abbrev p : ℕ
p = 112

abbrev r : ℕ
r = 114

abbrev s : ℕ
s = 115

abbrev t : ℕ
t = 116

abbrev u : ℕ
u = 117

abbrev v : ℕ
v = 118

abbrev w : ℕ
w = 119

abbrev x : ℕ
x = 120

abbrev y : ℕ
y = 121

-- a space between words, and a line's end
abbrev sp : ℕ
sp = 32

abbrev nl : ℕ
nl = 10

abbrev pub ssrc : List ℕ
ssrc = s ∷ s ∷ r ∷ c ∷ sp ∷ []

abbrev pub blocks : List ℕ
blocks = sp ∷ b ∷ l ∷ o ∷ c ∷ k ∷ s ∷ sp ∷ []

abbrev pub refused : List ℕ
refused = r ∷ e ∷ f ∷ u ∷ s ∷ e ∷ d ∷ sp ∷ []

abbrev pub place : List ℕ
place = sp ∷ a ∷ t ∷ sp ∷ []

abbrev pub unknown_type : List ℕ
unknown_type = sp ∷ u ∷ n ∷ k ∷ n ∷ o ∷ w ∷ n ∷ sp ∷ t ∷ y ∷ p ∷ e ∷ sp ∷ []

abbrev pub bytes : List ℕ
bytes = sp ∷ b ∷ y ∷ t ∷ e ∷ s ∷ sp ∷ []

abbrev pub dropped_type : List ℕ
dropped_type = sp ∷ d ∷ r ∷ o ∷ p ∷ p ∷ e ∷ d ∷ sp ∷ t ∷ y ∷ p ∷ e ∷ sp ∷ []

abbrev pub reason : List ℕ
reason = sp ∷ r ∷ e ∷ a ∷ s ∷ o ∷ n ∷ sp ∷ []

abbrev pub meas_source : List ℕ
meas_source = sp ∷ m ∷ e ∷ a ∷ s ∷ sp ∷ s ∷ o ∷ u ∷ r ∷ c ∷ e ∷ sp ∷ []

abbrev pub first : List ℕ
first = sp ∷ f ∷ i ∷ r ∷ s ∷ t ∷ sp ∷ []

abbrev pub efirst : List ℕ
efirst = sp ∷ e ∷ f ∷ i ∷ r ∷ s ∷ t ∷ sp ∷ []

abbrev pub elast : List ℕ
elast = sp ∷ e ∷ l ∷ a ∷ s ∷ t ∷ sp ∷ []

abbrev pub interval : List ℕ
interval = sp ∷ i ∷ n ∷ t ∷ e ∷ r ∷ v ∷ a ∷ l ∷ sp ∷ []

abbrev pub seconds : List ℕ
seconds = sp ∷ s ∷ e ∷ c ∷ o ∷ n ∷ d ∷ s ∷ sp ∷ []

abbrev pub fraction : List ℕ
fraction = sp ∷ f ∷ r ∷ a ∷ c ∷ t ∷ i ∷ o ∷ n ∷ sp ∷ []

abbrev pub loss_source : List ℕ
loss_source = sp ∷ l ∷ o ∷ s ∷ s ∷ sp ∷ s ∷ o ∷ u ∷ r ∷ c ∷ e ∷ sp ∷ []

abbrev pub discard_source : List ℕ
discard_source = sp ∷ d ∷ i ∷ s ∷ c ∷ a ∷ r ∷ d ∷ sp ∷ s ∷ o ∷ u ∷ r ∷ c ∷ e ∷ sp ∷ []

abbrev pub flag : List ℕ
flag = sp ∷ i ∷ sp ∷ []

abbrev pub burst : List ℕ
burst = sp ∷ b ∷ u ∷ r ∷ s ∷ t ∷ sp ∷ []

abbrev pub gap : List ℕ
gap = sp ∷ g ∷ a ∷ p ∷ sp ∷ []

abbrev pub mean : List ℕ
mean = sp ∷ m ∷ e ∷ a ∷ n ∷ sp ∷ []

abbrev pub variance : List ℕ
variance = sp ∷ v ∷ a ∷ r ∷ sp ∷ []

abbrev pub eli_source : List ℕ
eli_source = sp ∷ e ∷ l ∷ i ∷ sp ∷ s ∷ o ∷ u ∷ r ∷ c ∷ e ∷ sp ∷ []

abbrev pub index : List ℕ
index = sp ∷ i ∷ n ∷ d ∷ e ∷ x ∷ sp ∷ []

abbrev pub ts_source : List ℕ
ts_source = sp ∷ t ∷ s ∷ sp ∷ s ∷ o ∷ u ∷ r ∷ c ∷ e ∷ sp ∷ []

abbrev pub begin : List ℕ
begin = sp ∷ b ∷ e ∷ g ∷ i ∷ n ∷ sp ∷ []

abbrev pub end : List ℕ
end = sp ∷ e ∷ n ∷ d ∷ sp ∷ []

abbrev pub packets : List ℕ
packets = sp ∷ p ∷ a ∷ c ∷ k ∷ e ∷ t ∷ s ∷ sp ∷ []

abbrev pub streams : List ℕ
streams = sp ∷ s ∷ t ∷ r ∷ e ∷ a ∷ m ∷ s ∷ sp ∷ []

abbrev pub counts : List ℕ
counts = sp ∷ c ∷ o ∷ u ∷ n ∷ t ∷ s ∷ []

abbrev pub rle_source : List ℕ
rle_source = sp ∷ r ∷ l ∷ e ∷ sp ∷ s ∷ o ∷ u ∷ r ∷ c ∷ e ∷ sp ∷ []

abbrev pub lost : List ℕ
lost = sp ∷ l ∷ o ∷ s ∷ t ∷ sp ∷ []

abbrev pub space : List ℕ
space = sp ∷ []

abbrev pub over : List ℕ
over = o ∷ v ∷ e ∷ r ∷ []

abbrev pub none : List ℕ
none = n ∷ o ∷ n ∷ e ∷ []

abbrev pub newline : List ℕ
newline = nl ∷ []
