-- What the second program printed for cases 20 to 39 of seed 7, and that the definitions print the same. Made by tools/theorems.
use Prim.Native.Nat.{ℕ}
use mathlib.Core.Path.{◌≡◌, refl}
use mathlib.Core.List.{List, [], ◌∷◌, ◌++◌, map}
use Rattle.syntax.specs.Bytes.{bytes}
use Rattle.meaning.proofs.Printing.{Case, whole, printing}

unfoldable asked : List Case
asked =
    whole (bytes "monitor m{var y0=2in 0..3;keep y0==2||y0!=3;method b0{waituntil((true)){y0:=y0;}}method A1{waituntil(y0!=2){if(y0==3&&y0<0){if(3!=y0){y0:=0;}}y0:=3;}}method Z2{waituntil(y0<003){y0:=y0+1;}}}  ") ([])
    ∷ whole (bytes "monitor m{var y0=-2in-2..2;var g1=000in 0..1;var A2=2in 1..03;var a3=0in 0..0;var y4=0in 0..0;var a5=127in 127..127;keep true;method Y0{waituntil(A2==1){A2:=1;}}method c1{waituntil(A2==001){y0:=2;}}}") (bytes "020000\n0B0000\n")
    ∷ whole (bytes "monitor m { var f0 = 3 in 0 .. 3 ; var A1 = 1 in 0 .. 1 ; keep true ; try f0 >= 1 && f0 == 3 ; try true ; method a0 { waituntil ( f0 != 0 ) { f0 := 0 ; } } method f1 { waituntil ( A1 < 1 ) { A1 := A1 + 1 ; } } } ||") ([])
    ∷ whole (bytes "monitor m{var c0=-1in-1..0;keep true;method Y0{waituntil(c0>-1){c0:=c0-1;}}method b1{waituntil(c0<000){c0:=0;}}method g2{waituntil(c0>-01){c0:=-1;}waituntil(c0>-01){c0:=-1;}}}") (bytes "080101\n080001\n0B0000\n040200\n0A0000\n080101\n0B0001\n0B0000\n060101\n040201\n040300\n080200\n")
    ∷ whole (bytes "monitor m{var f0=2in 1..2;keep f0 mod 999==02||f0 mod f0<2-f0 mod f0;try f0==2;try!(f0<=2);try f0<=1;try f0==2;method X0{waituntil(f0 mod f0==1){if(f0!=2){f0:=2;}}}method a1{waituntil(f0<2){if(f0<1){f0:=f0 mod 0;}}waituntil(true){if(f0!=002){f0:=1;}}}method h2{waituntil(f0>0){f0:=1;}}}") (bytes "0C0301\n010000\n0C0000\n0A0301\n070000\n0A0101\n0A0201\n0A0000\n060101\n00000a\n060201\n060301\n")
    ∷ whole (bytes "monitor m{var A0=2in 0..02;var y1=3in-129..4;keep true;method Y0{waituntil(A0 mod 02==001){A0:=0;}waituntil(A0 mod 02==001){A0:=A0-1;}}method X1{waituntil(A0==000){A0:=2;}}method z2{waituntil(y1>003){y1:=y1-1;}}}" ++ ((13 ∷ []))) (bytes "040101\n040200\n010001\n010000\n0E0101\n")
    ∷ whole (bytes "monitor m{var B0=2in 1..2;keep true;method a0{waituntil(B0 mod 2==0){B0:=B0-1;}waituntil(B0 mod 2==0){B0:=1;}}method a1{waituntil(B0==1){B0:=2;}waituntil(B0==001){B0:=B0+1;}}}") (bytes "000001\n000100\n0B0000\n010201\n010300\n040200\n060200\n000101\n0E0000\n010301\n")
    ∷ whole (bytes "monitor m{var A0=6in 5..6;var y1=5in 5..6;var z2=0in 000..1;var e3=000in 0..1;keep true;method Z0{waituntil(A0>5){A0:=A0-1;}}method A1{waituntil(true){z2:=0;}}method x2{waituntil(e3>0){e3:=e3-1;}}}") (bytes "030200\n040001\n040101\n040200\n")
    ∷ whole (bytes "monitor m{var Z0=1in-02..1;keep!(true);method a0{waituntil(Z0<-2&&Z0>=1){if(1<Z0){}}}method A1{waituntil(Z0==-2){}}}" ++ ((9 ∷ []))) (bytes "050001\n0F0201\n040101\n030001\n0A0001\n000001\n080001\n")
    ∷ whole (bytes "monitor m{var b0=-1in-1..2;keep true;method y0{waituntil(b0!=-1){b0:=-1;}}method A1{waituntil(b0==-001){b0:=b0+1;}}method A2{waituntil(b0!=-1){}}}") (bytes "0A0101\n0A0100\n040001\n040200\n0A0101\n040201\n")
    ∷ whole (bytes "monitor m{var y0=2in 1..2;keep true;method A0{waituntil(y0!=1){y0:=1{({{({(({({(((;}}method Y1{waituntil(y0!=02){y0:=y0+1)))})}))})}})};}}method h2{waituntil(y0!=1){y0:=y0-1;}waituntil(y0!=2){y0:=y0+1;}}}") (bytes "060001\n060100\n0E0001\n0E0100\n0D0001\n0D0100\n")
    ∷ whole (bytes "{)x1{_|\n}:a|<Z<<9_1>x}!&)|9=_9_)!9{<(\n_<;1({<+>1:<|<<a}a>+Z+;x>Z>{}(&()a::)x{!x9Z&<=Z}1{=::\n{|&-;(<_ =<|:<\n+\n;1>>x1Z-100a0:||:a(-9{x|xx;Z=\n(-!{:=|=+!\n(1:Z=:<+1 x:(\n>)+&Z&=+|;!&\n;_||<<_&({&") (bytes "0E0000\n040000\n0A0100\n")
    ∷ whole (bytes "monitor m{var X0=000in 0..1;keep true;method X0{waituntil(X0 mod 02==1){X0:=0;}}method A1{waituntil(X0==0){X0:=1;}waituntil(X0 mod 2==001){X0:=000;}}}") (bytes "050000\n090000\n0A0000\n020000\n0D0101\n0D0201\n050000\n0E0000\n020000\n")
    ∷ whole (bytes "monitor m { var d0 = 1 in 001 .. 4 ; keep true || m == 0 ; method b0 { waituntil ( d0 == 4 ) { d0 := d0 - 1 ; } } method h1 { waituntil ( d0 < 4 ) { d0 := 4 ; } } }") ([])
    ∷ whole (bytes "monitor m{var h0=0in 0..0;keep true;try h0 mod 10==0;method A0{waituntil(0mod 3>=h0 mod 2){h0:=0;}}method Z1{waituntil(true){h0:=h0+h0 mod 1+h0 mod 5;}}method X2{waituntil(h0==0){if(h0>0){}}}}" ++ ((13 ∷ []))) (bytes "010001\n020001\n0A0001\n0A0201\n0D0101\n0D0201\n010001\n010101\n0B0201\n0B0101\n")
    ∷ whole (bytes "monitor m{var b0=0in 00..3;var X1=0in 0..1;keep true;method d0{waituntil(b0==3){b0:=0;}}method A1{waituntil(b0<3){b0:=03;}}method f2{waituntil(X1!=0){X1:=X1-1;}}}") (bytes "070201\n050000\n")
    ∷ whole (bytes "monitor m{var b0=0in 0..1;keep true;try true&&b0 mod b0>1;method b0{waituntil(b0==1){b0:=b0-1;}}method d1{waituntil(b0<1){b0:=1;}}method Y2{waituntil(b0==1){b0:=0;}waituntil(true){}}}") (bytes "0E0001\n0A0001\n060001\n0C0101\n050001\n")
    ∷ whole (bytes "monitor m{var B0=127in 124..127;var f1=1in 0..4;keep B0>=f1 mod B0-f1-f1;try f1!=04;try B0>=127;try f1!=2;try f1!=3;method z0{waituntil(f1<04){f1:=f1+1;}}method x1{waituntil(B0<127){B0:=B0+1;}}}" ++ ((13 ∷ []) ++ (bytes " "))) (bytes "040001\n030100\n0E0001\n040100\n0A0001\n0B0100\n010100\n0C0100\n")
    ∷ whole (bytes "monitor m{var z0=-5in-&18..17;keep z0 mod 002==1||z0 mod 3==2-z0 mod 3&&!(999mod z0==1)||z0 mod 00!=-1;try 10>z0;try z0<-4;try z0<-3;try z0<-2;method z0{waituntil(1<=z0){z0:=17;}}method y1{waituntil(true||z0 mod z0<=-1||z0<17){if(z0<=-18){z0:=-018;if(z0==-18||-18>=z0){z0:=z0-z0;}}else{}}waituntil(z0>-18){z0:=15;}}}") (bytes "060000\n030200\n050200\n0C0101\n0C0200\n0B0101\n0B0101\n0B0200\n060001\n060101\n060001\n")
    ∷ whole (bytes "monitor m{var Z0=0in 000..7;keep true;try Z0>=0;try!(Z0<=1);try Z0>=0;method c0{waituntil(Z0>0){Z0:=Z0-1;}waituntil(Z0>0){Z0:=Z0-1;}}method X1{waituntil(true){Z0:=2;}waituntil(Z0>0){Z0:=-Z0 1;}}}") (bytes "0B0201\n0B0301\n0D0001\n")
    ∷ []

unfoldable told : List (List ℕ)
told =
    (bytes "0900010000\n0900010000\n")
    ∷ (bytes "007E80828080FFFFFF00FFFFFFFFFFFFFFFF00FFFFFFFF\n007E80828080FFFFFF00FFFFFFFFFFFFFFFF00FFFFFFFF\n")
    ∷ (bytes "0400D40000\n0400D40000\n")
    ∷ (bytes "00010100\n01000100\n02010100\n03010100\n007FFFFFFFFF03FFFFFF02FF0000FFFFFFFF\n007FFFFFFFFF03FFFFFF02FF0000FFFFFFFF\n")
    ∷ (bytes "03010101\n0C00090000\n0C00090000\n")
    ∷ (bytes "07001B0000\n07001B0000\n")
    ∷ (bytes "00010100\n01010100\n02000100\n03000100\n0082FFFFFFFF02FF02FFFFFFFF00FFFF00FF\n0082FFFFFFFF02FF02FFFFFFFF00FFFF00FF\n")
    ∷ (bytes "0085858080FFFFFF0202FFFFFFFFFFFFFFFFFFFFFF\n0085858080FFFFFF0202FFFFFFFFFFFFFFFFFFFFFF\n")
    ∷ (bytes "08001B0000\n08001B0000\n")
    ∷ (bytes "00010100\n01000101\n0080FFFFFFFFFFFFFFFFFFFFFFFFFFFFFFFF\n0080FFFFFFFFFFFFFFFFFFFFFFFFFFFFFFFF\n")
    ∷ (bytes "03004D0000\n03004D0000\n")
    ∷ (bytes "0200050000\n0200050000\n")
    ∷ (bytes "00010100\n01000100\n02010100\n0080FFFF00FFFF00FFFFFF0000FFFFFF00FF\n0E00080000\n")
    ∷ (bytes "0600320000\n0600320000\n")
    ∷ (bytes "0080FFFFFFFFFFFFFFFFFFFFFFFFFFFFFFFF\n0080FFFFFFFFFFFFFFFFFFFFFFFFFFFFFFFF\n")
    ∷ (bytes "00010100\n01000100\n0E00000000\n0E00000000\n")
    ∷ (bytes "0F00310000\n0F00310000\n")
    ∷ (bytes "00FF84FF01FF0101FFFFFFFFFFFF0101FFFFFF\n00FF84FF01FF0101FFFFFFFFFFFF0101FFFFFF\n")
    ∷ (bytes "0200160000\n0200160000\n")
    ∷ (bytes "0400BB0000\n0400BB0000\n")
    ∷ []

same : map printing asked ≡ told
unfolding asked told printing
same = refl
