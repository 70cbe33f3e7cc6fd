mod Popping
