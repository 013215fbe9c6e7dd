-- What the second program printed for cases 120 to 139 of seed 7, and that the definitions print the same. Made by tools/theorems.
use Prim.Native.Nat.{ℕ}
use mathlib.Core.Path.{◌≡◌, refl}
use mathlib.Core.List.{List, [], ◌∷◌, ◌++◌, map}
use Rattle.syntax.specs.Bytes.{bytes}
use Rattle.meaning.proofs.Printing.{Case, whole, printing}

unfoldable asked : List Case
asked =
    whole (bytes "monitor m{var X0=0in-1..0;var g1=1in 00..3;keep true;method B0{waituntil(!false){if(X0==0){}else{if(X0!=-1){}}}}method Z1{waituntil((true)){if(X0==0){X0:=0+1;}if(false){}else{if(false){g1:=-1;}}}waituntil(X0+X0>1){if(X0<=-1){}else{g1:=000;}}}method Y2{waituntil(X0>0&&X0==0&&X0>-1){}}}") (bytes ")  !=")
    ∷ whole (bytes "monitor m{var x0______________=0in 0..3;keep true;method f0{waituntil(x0______________!=000){x0______________:=0;}}method a1{waituntil(x0______________<3){x0______________:=x0______________+1;}}method b2{waituntil(x0______________==0){x0______________:=3;}}}") (bytes "050000\n000000\n010000\n070000\n040201\n050001\n0F0101\n060200\n090200\n000001\n060201\n010001\n")
    ∷ whole (bytes "monitor m { var y0 = - 5 in - 5 .. 4 ; var Z1 = 0 in 0 .. 1 ; keep true ; method B0 { waituntil ( y0 <= - 4 ) { Z1 := Z1 ; } } method g1 { waituntil ( false ) { if ( Z1 > 0 ) { } } } method x2 { waituntil ( ! false ) { if ( 1 == Z1 ) { if ( Z1 == 0 ) { Z1 := 1 ; } } } } } >= " ++ ((9 ∷ []))) (bytes "\n\n\nkeep!=&&m")
    ∷ whole (bytes "monitor m{var a0=-128in-128..-127;keep true;try a0==-128;try a0==-128;method A0{waituntil(a0>=-128){a0:=-127;}waituntil(a0>=-127){a0:=-128;}}method e1{waituntil(a0==-127){if(a0!=-128){a0:=-127;}}}method h2{waituntil(a0<-127){a0:=a0+1;}}}" ++ ((13 ∷ []))) (bytes "080301\n0B0300\n080300\n020201\n0F0300\n0C0001\n0C0101\n010200\n0B0301\n010201\n0C0300\n")
    ∷ whole (bytes "monitor m{var d0=-128in-128..-124;keep true;try d0!=-125;try d0<=-125||d0!=-125;try d0!=-126;try d0!=-127;method Y0{waituntil(d0<-124){d0:=d0+1;}}method B1{waituntil(false){if(d0!=-124){}else{d0:=-126;}}waituntil(d0+d0!=-1){d0:=d0;}}}") (bytes "020100\n060001\n0E0100\n9E0000\n090100\n060001\n")
    ∷ whole (bytes "monitor m{var a0=-2in-018..017;var e1=127in-130..127;keep!(a0 mod-0==-1);try a0==-2;method z0{waituntil(!(a0 mod-999<0)){if(e1<127){e1:=e1 mod 0;}}waituntil(a0 mod e1-5mod-2<0){a0:=a0-1;}}}") (bytes "0A0001\n0A0100\n030001\n")
    ∷ whole (bytes "monitor m{var Y0=1in 1..2;keep true;method a0{waituntil(Y0>1){Y0:=Y0-1;}}method X1{waituntil(Y0<2){Y0:=Y0+1;}waituntil(Y0>001){Y0:=Y0-1;}waituntil(Y0<002){Y0:=Y0+1;}}}") (bytes "070000\n080000\n030000\n020101\n020201\n020301\n070001\n090101\n090201\n090301\n")
    ∷ whole (bytes "monitor m{var e0=-128in-128..-124;keep true;try e0<=-125;try e0<-127;try e0<-125;try e0<-126;method y0{waituntil(e0<-124){e0:=e0+1;}}method x1{waituntil(e0>-128){}waituntil(e0>-128){}waituntil(e0>-128){}}}") (bytes "050100\n070001\n070101\n070201\n070301\n050101\n050201\n050301\n050001\n050001\n070101\n")
    ∷ whole (bytes "monitor m{var z0=1in 1..16;keep(!(z0<14));try z0>=1;try true;method a0{waituntil(5>z0||z0>1){z0:=13;}}method e1{waituntil(05>z0||z0>1){if(z0==6){}}}}") (bytes "m" ++ ((151 ∷ []) ++ (bytes "hgaL*")))
    ∷ whole (bytes "monitor m { var b0 = 0 in 0 .. 1 ; keep true ; method y0 { waituntil ( true ) { if ( b0 < 0 ) { } else { if ( b0 == 0 ) { } } } waituntil ( 1 < 2 ) { } } method f1 { waituntil ( 1 < 2 ) { if ( 1 < b0 ) { b0 := 1 ; } } } }") (bytes "050201\n060001\n060101\n0C0201\n070201\n0C0001\n0C0101\n070201\n060201\n050001\n050101\n")
    ∷ whole (bytes "monitor m{var A0=-128in-128..-127;keep A0+A0<0+A0+-2;try A0<=-128;method d0{waituntil(A0>-127){A0:=A0 mod 7;}}method h1{waituntil(A0>-127){A0:=A0{{({(({({(((({-1;}}method y2{waituntil(A0>-127)}))))})}))})}}{}}} ") (bytes "x" ++ ((9 ∷ []) ++ (bytes "  x)false 1false" ++ ((9 ∷ []) ++ (bytes "  :=waituntil")))))
    ∷ whole ((9 ∷ []) ++ (bytes " Monitor==x_1 Z9")) (bytes "080201\n020200\n090200\n080200\n000200\n030200\n")
    ∷ whole (bytes "monitor m{var y0=1in 1..3;keep true;try y0==1||y0==1;method e0{waituntil(y0==03){y0:=y0-1;}waituntil(y0!=3){y0:=3;}}method x1{waituntil(y0!=003){y0:=3;}}method Y2{waituntil(true){y0:=3;}}}") (bytes "000000\n010201\n070200\n010301\n020200\n010200\n030200\n000001\n000101\n030200\n")
    ∷ whole (bytes "monitor m{var B0=0in 0..1;var B1=1in 0..1;keep true;method a0{waituntil(B0 mod 2==001){B0:=B0-1;}}method a0{waituntil(B0 mod 2==001){B0:=B0-1;}}method y1{waituntil(B0==0){B0:=1;}waituntil(B0 mod 2==01){B0:=B0-1;}}method x2{waituntil(B1!=0){B1:=0;}}}" ++ ((13 ∷ 9 ∷ []))) (bytes "var\nkeep" ++ ((13 ∷ []) ++ (bytes "}Z9" ++ ((9 ∷ 13 ∷ []) ++ (bytes "x y" ++ ((13 ∷ [])))))))
    ∷ whole (bytes "monitor m{var f0=-01in-1..0;keep true;method c0{waituntil(f0!=-01){f0:=f0-1;}}method z1{waituntil(f0==-001){f0:=f0+1;}}}") (bytes "0D0101\n000001\n010101\n0E0100\n000100\n0A0001\n0A0000\n0D0000\n040000\n010101\n0A0001\n0A0101\n")
    ∷ whole (bytes "monitor m{var f0=92in 92..127;var a1=0in 0..0;keep true;method h0{waituntil(f0<=a1){a1:=0;}waituntil(f0<=a1){f0:=f0-1;}}method z1{waituntil(f0>92){f0:=f0-1;}}method A2{waituntil(a1==0){if(!true){a1:=-1;}}}}" ++ ((9 ∷ 9 ∷ []))) (bytes "0C0200\n0F0000\n090001\n0B0200\n")
    ∷ whole (bytes "monitor m{var Z0=01in 0..1;keep 0mod Z0<=-1;method A0{waituntil(Z0 mod 002==001){Z0:=0;}}method b1{waituntil(Z0!=1){Z0:=Z0+1;}}method B2{waituntil(Z0 mod 002==1){Z0:=Z0-1;}waituntil(true){Z0:=Z0--1-Z0;}}}") (bytes "000000\n050000\n070000\n080000\n0A0000\n0E0000\n0B0000\n010000\n")
    ∷ whole (bytes "monitor m { var f0 = 6 in 0 .. 9 ; keep true ; method h0 { waituntil ( f0 != 0 ) { f0 := 0 ; } waituntil ( f0 != 0 ) { } } method d1 { waituntil ( f0 != 0 ) { if ( f0 != 0 ) { f0 := 0 ; } } } method z2 { waituntil ( 0 == f0 ) { f0 := 0 ; } } }") (bytes "030300\n0F0300\n0A0300\n020300\n0B0300\n010001\n010100\n030301\n0F0301\n030000\n050301\n")
    ∷ whole (bytes "monitor m{var e0=127in 124..127;var e1=0in..8;keep e0==127;try e0==127;method f0{w___________________aituntil(e0<=e0){if(e0!=127){}else{if(e0==127 127){}else{e1:=02;}}}}method Y1{waituntil(e0<=e0){if(e1<8){e1:=e1+1;}else{e1:=0;}}}method x2{waituntil(e0>124){if(e0<127){e0:=e0+1;}}}}") ([])
    ∷ whole (bytes "monitor m{var z0=-26in-26..-25;keep true;tr yz0<=-25;try z0<-25;method B0{waituntil(z0<>25){z0:=z0+1;}umethod d1{waituntil(0==0){if(1>2){z0:=-27;}}}}" ++ ((9 ∷ []) ++ (bytes " "))) (bytes "090001\n090000\n080101\n0B0000\n0C0000\n030000\n040000\n050000\n010101\n080000\n")
    ∷ []

unfoldable told : List (List ℕ)
told =
    (bytes "0900010004\n0900010004\n")
    ∷ (bytes "00010101\n00020100\n01000100\n02000100\n0080FFFFFFFFFFFFFF00FF02FFFFFFFFFFFF\n0080FFFFFFFFFFFFFF00FF02FFFFFFFFFFFF\n")
    ∷ (bytes "0401110000\n0401110000\n")
    ∷ (bytes "00010100\n00020101\n01030100\n03010100\n03020101\n0001FFFFFFFFFFFFFFFF03FFFFFF03FFFF03\n0001FFFFFFFFFFFFFFFF03FFFFFF03FFFF03\n")
    ∷ (bytes "0C00030000\n0C00030000\n")
    ∷ (bytes "07001F0000\n07001F0000\n")
    ∷ (bytes "00010100\n01000100\n02010100\n03000100\n0082FFFFFF00FFFFFFFF00FFFFFFFFFFFFFF\n0082FFFFFF00FFFFFFFF00FFFFFFFFFFFFFF\n")
    ∷ (bytes "00010101\n0003FFFFFFFFFFFFFF12FFFFFFFFFFFFFFFF\n0003FFFFFFFFFFFFFF12FFFFFFFFFFFFFFFF\n")
    ∷ (bytes "08001B0000\n08001B0000\n")
    ∷ (bytes "0080FFFFFFFFFFFFFFFFFFFFFFFFFFFFFFFF\n0080FFFFFFFFFFFFFFFFFFFFFFFFFFFFFFFF\n")
    ∷ (bytes "03009A0000\n03009A0000\n")
    ∷ (bytes "0400020000\n0400020000\n")
    ∷ (bytes "00010100\n01000100\n02000100\n03000100\n0083FF020202FFFFFF02FFFFFFFFFFFFFFFF\n0E00090000\n")
    ∷ (bytes "0600690000\n0600690000\n")
    ∷ (bytes "00010100\n01000100\n008001FFFFFF00FFFFFFFFFFFFFFFF0001FF\n008001FFFFFF00FFFFFFFFFFFFFFFF0001FF\n")
    ∷ (bytes "0E00020000\n0E00020000\n")
    ∷ (bytes "0F00210000\n0F00210000\n")
    ∷ (bytes "00010101\n02010101\n0080FF010300FFFFFFFFFFFF0303FFFFFFFF\n0080FF010300FFFFFFFFFFFF0303FFFFFFFF\n")
    ∷ (bytes "0200510000\n0200510000\n")
    ∷ (bytes "0400290000\n0400290000\n")
    ∷ []

same : map printing asked ≡ told
unfolding asked told printing
same = refl
